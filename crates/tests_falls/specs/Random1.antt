-- Random: sites 3, clients 3, steps 47, messages 17, lost 2, aborts 1, falls 3, rises 1, unwritten records 2.
use Rattle.std.specs.Prelude.{List, [], ◌∷◌, Some, None, false}
use Rattle.qc_decl.specs.declared.declaration.Declaration.{Declaration}
use Rattle.qc_decl.specs.Vocabulary.{row}
use Rattle.qc_msg.specs.Vocabulary.{Entry, marked}
use Rattle.tests_histories.specs.Words.{tx, own_line, read_lock, prepare, declaration, kind, pair, plan}
use Rattle.qc_msg.specs.declared.step.Step.TheVariants.{Phase, Called, Got, Lost, Wrote, Sent, Told, Fell, Rose}
use Rattle.qc_msg.specs.declared.turn.Appended.TheVariants.{Done, Stopped}
use Rattle.tests_falls.specs.Perform.{Move, Begins, Acts, Takes, Posts, Rises}
use Rattle.qc_msg.specs.declared.message.Answer.TheVariants as answers
use Rattle.qc_msg.specs.declared.reply.AbortCause.TheVariants as causes
use Rattle.qc_msg.specs.declared.step.Command.TheVariants as commands
use Rattle.qc_msg.specs.declared.message.Message.TheVariants as messages
use Rattle.qc_msg.specs.declared.message.Outcome.TheVariants as outcomes
use Rattle.qc_msg.specs.declared.record.Record.TheVariants as records
use Rattle.qc_msg.specs.declared.reply.Reply.TheVariants as replies
use Rattle.qc_msg.specs.declared.message.Want.TheVariants as wants
use Rattle.qc_msg.specs.declared.step.Fall.TheVariants as falls
use Rattle.qc_msg.specs.Vocabulary.{whole_grant, first_read}

abbrev pub decl : Declaration
decl =
    declaration 3 3 (kind 7 3 4 0 (row 0 0 0 1 ∷ row 0 1 0 2 ∷ row 1 0 0 3 ∷ row 1 1 0 4 ∷ row 2 0 0 5 ∷ row 2 1 0 6 ∷
    row 0 2 3 0 ∷ row 1 2 1 0 ∷ row 2 2 2 0 ∷ row 3 2 1 1 ∷ row 4 2 1 2 ∷ row 5 2 2 1 ∷ row 6 2 2 2 ∷ []) (pair 0 0 ∷
    pair 0 1 ∷ pair 0 3 ∷ pair 0 4 ∷ pair 1 0 ∷ pair 1 1 ∷ pair 1 3 ∷ pair 1 4 ∷ pair 2 0 ∷ pair 2 1 ∷ pair 2 3 ∷ pair 2
    4 ∷ []) ∷ kind 2 2 3 0 (row 0 0 0 1 ∷ row 1 0 1 1 ∷ row 0 1 2 0 ∷ row 1 1 2 0 ∷ []) (pair 0 0 ∷ pair 0 2 ∷ []) ∷ [])
    (0 ∷ []) (plan (2 ∷ 1 ∷ 1 ∷ []) ((1 ∷ 2 ∷ 2 ∷ []) ∷ []) ((4 ∷ 4 ∷ 3 ∷ 4 ∷ 4 ∷ []) ∷ []) ∷ plan (1 ∷ 0 ∷ 3 ∷ []) ((3
    ∷ 3 ∷ 3 ∷ []) ∷ []) ((2 ∷ 2 ∷ 1 ∷ 2 ∷ 2 ∷ []) ∷ []) ∷ [])

abbrev pub moves : List Move
moves =
    Begins ∷ Acts ∷ Rises false Done ∷ Takes 4 ∷ Posts 4 Done ∷ Takes 4 ∷ Posts 4 Done ∷ Takes 1 ∷ Posts 1 Done ∷
    Takes 4 ∷ Posts 4 Done ∷ Takes 2 ∷ Posts 2 Done ∷ Takes 4 ∷ Posts 4 Done ∷ Takes 1 ∷ Posts 1 Done ∷ Takes 2 ∷
    Posts 2 Done ∷ Takes 0 ∷ Posts 0 Done ∷ Takes 4 ∷ Posts 4 Done ∷ Takes 4 ∷ Posts 4 Done ∷ Takes 4 ∷ Posts 4 Done ∷
    Takes 4 ∷ Posts 4 Done ∷ Takes 2 ∷ Takes 0 ∷ Posts 0 Stopped ∷ Posts 2 Done ∷ Takes 1 ∷ Takes 4 ∷ Posts 4 Done ∷
    Posts 1 Stopped ∷ Takes 4 ∷ Posts 4 Done ∷ Takes 4 ∷ Posts 4 Done ∷ Takes 2 ∷ Posts 2 Done ∷ []

abbrev pub history : List Entry
history =
    marked 7 (Phase 1) ∷ marked 3 (Fell falls.Script None) ∷ marked 3 (Rose []) ∷ marked 3 (Wrote records.Life) ∷
    marked 4 (Called commands.Begin) ∷ marked 4 (Told (replies.Began (tx 1 1))) ∷ marked 4 (Called (commands.Do 0 1)) ∷
    marked 4 (Sent 0 1 (messages.Request (tx 1 1) 1 0 (wants.Read (first_read 0 1)))) ∷
    marked 4 (Sent 1 2 (messages.Request (tx 1 1) 1 0 (wants.Read (first_read 0 1)))) ∷ marked 1 (Got 0) ∷
    marked 1 (Sent 2 4 (messages.Answer 0 (answers.Granted (whole_grant 1 0 [])))) ∷ marked 4 (Got 2) ∷ marked 2 (Got 1)
    ∷
    marked 2 (Sent 3 4 (messages.Answer 1 (answers.Granted (whole_grant 1 0 [])))) ∷ marked 4 (Got 3) ∷
    marked 4 (Sent 4 1 (messages.Request (tx 1 1) 1 1 (wants.Append 0 [] (own_line 1 0 1 ∷ [])))) ∷
    marked 4 (Sent 5 2 (messages.Request (tx 1 1) 1 1 (wants.Append 0 [] (own_line 1 0 1 ∷ [])))) ∷
    marked 4 (Sent 6 0 (messages.Request (tx 1 1) 1 0 (wants.Append 0 [] (own_line 1 0 1 ∷ [])))) ∷ marked 1 (Got 4) ∷
    marked 1 (Sent 7 4 (messages.Answer 4 (answers.Granted (whole_grant 1 0 [])))) ∷ marked 2 (Got 5) ∷
    marked 2 (Sent 8 4 (messages.Answer 5 (answers.Granted (whole_grant 1 0 [])))) ∷ marked 0 (Got 6) ∷
    marked 0 (Sent 9 4 (messages.Answer 6 (answers.Granted (whole_grant 1 0 [])))) ∷ marked 4 (Got 7) ∷ marked 4 (Got 8)
    ∷
    marked 4 (Got 9) ∷ marked 4 (Told (replies.Response 0)) ∷ marked 4 (Called commands.Commit) ∷
    marked 4 (Sent 10 1 (messages.Request (tx 1 1) 1 1 wants.Prepare)) ∷
    marked 4 (Sent 11 2 (messages.Request (tx 1 1) 1 1 wants.Prepare)) ∷
    marked 4 (Sent 12 0 (messages.Request (tx 1 1) 1 1 wants.Prepare)) ∷ marked 2 (Got 11) ∷ marked 0 (Got 12) ∷
    marked 0 (Fell falls.Stop (Some (prepare (tx 1 1) 1 [] (own_line 1 0 1 ∷ []) []))) ∷
    marked 2 (Wrote (prepare (tx 1 1) 1 (read_lock 0 1 ∷ []) (own_line 1 0 1 ∷ []) [])) ∷
    marked 2 (Sent 13 4 (messages.Answer 11 (answers.Yes 0))) ∷ marked 1 (Got 10) ∷ marked 4 (Got 13) ∷
    marked 1 (Fell falls.Stop (Some (prepare (tx 1 1) 1 (read_lock 0 1 ∷ []) (own_line 1 0 1 ∷ []) []))) ∷
    marked 4 (Lost 10) ∷ marked 4 (Lost 12) ∷ marked 4 (Sent 14 0 (messages.Decision (tx 1 1) outcomes.Aborted)) ∷
    marked 4 (Sent 15 1 (messages.Decision (tx 1 1) outcomes.Aborted)) ∷
    marked 4 (Sent 16 2 (messages.Decision (tx 1 1) outcomes.Aborted)) ∷
    marked 4 (Told (replies.Aborted (causes.NoAnswer 1))) ∷ marked 2 (Got 16) ∷ []
