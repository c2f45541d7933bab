-- Random: sites 3, clients 1, steps 58, messages 20, lost 2, cuts 1, aborts 1, short rounds 2, falls 2, rises 1.
use Rattle.std.specs.Prelude.{List, [], ◌∷◌, None, false}
use Rattle.qc_decl.specs.declared.declaration.Declaration.{Declaration}
use Rattle.qc_decl.specs.Vocabulary.{row}
use Rattle.qc_msg.specs.Vocabulary.{Entry, marked}
use Rattle.tests_histories.specs.Words.{tx, own_line, declaration, kind, pair, plan}
use Rattle.qc_msg.specs.declared.step.Step.TheVariants.{Phase, Cut, Called, Got, Lost, Wrote, Sent, Told, Fell, Rose}
use Rattle.qc_msg.specs.declared.turn.Appended.TheVariants.{Done}
use Rattle.tests_falls.specs.Perform.{Move, Begins, Acts, Takes, Posts, Rises}
use Rattle.qc_msg.specs.declared.message.Answer.TheVariants as answers
use Rattle.qc_msg.specs.declared.reply.AbortCause.TheVariants as causes
use Rattle.qc_msg.specs.declared.step.Command.TheVariants as commands
use Rattle.qc_msg.specs.declared.reply.Half.TheVariants as halves
use Rattle.qc_msg.specs.declared.message.Message.TheVariants as messages
use Rattle.qc_msg.specs.declared.message.Outcome.TheVariants as outcomes
use Rattle.qc_msg.specs.declared.record.Record.TheVariants as records
use Rattle.qc_msg.specs.declared.reply.Reply.TheVariants as replies
use Rattle.qc_msg.specs.declared.message.Want.TheVariants as wants
use Rattle.qc_msg.specs.declared.step.Fall.TheVariants as falls
use Rattle.qc_msg.specs.Vocabulary.{whole_grant, first_read}

abbrev pub decl : Declaration
decl =
    declaration 3 1 (kind 4 3 3 0 (row 0 0 0 1 ∷ row 0 1 0 2 ∷ row 1 1 0 3 ∷ row 2 0 0 3 ∷ row 1 2 1 0 ∷ row 2 2 2 0 ∷
    row 3 2 1 2 ∷ row 3 2 2 1 ∷ []) (pair 0 0 ∷ pair 0 2 ∷ pair 0 3 ∷ pair 1 1 ∷ pair 1 3 ∷ pair 2 0 ∷ pair 2 1 ∷ pair 2
    2 ∷ pair 2 3 ∷ []) ∷ []) (0 ∷ []) (plan (1 ∷ 1 ∷ 1 ∷ []) ((1 ∷ 3 ∷ 2 ∷ []) ∷ []) ((3 ∷ 2 ∷ 3 ∷ 3 ∷ []) ∷ []) ∷ plan
    (1 ∷ 3 ∷ 1 ∷ []) ((3 ∷ 3 ∷ 3 ∷ []) ∷ []) ((3 ∷ 3 ∷ 3 ∷ 3 ∷ []) ∷ []) ∷ plan (1 ∷ 1 ∷ 0 ∷ []) ((2 ∷ 2 ∷ 2 ∷ []) ∷ [])
    ((1 ∷ 1 ∷ 1 ∷ 1 ∷ []) ∷ []) ∷ [])

abbrev pub moves : List Move
moves =
    Begins ∷ Acts ∷ Acts ∷ Rises false Done ∷ Acts ∷ Takes 3 ∷ Posts 3 Done ∷ Takes 3 ∷ Posts 3 Done ∷ Takes 0 ∷
    Posts 0 Done ∷ Takes 3 ∷ Posts 3 Done ∷ Takes 3 ∷ Posts 3 Done ∷ Takes 2 ∷ Posts 2 Done ∷ Takes 0 ∷ Takes 3 ∷
    Posts 3 Done ∷ Posts 0 Done ∷ Takes 3 ∷ Posts 3 Done ∷ Takes 3 ∷ Posts 3 Done ∷ Takes 3 ∷ Takes 2 ∷ Posts 2 Done ∷
    Takes 0 ∷ Posts 0 Done ∷ Posts 3 Done ∷ Takes 3 ∷ Posts 3 Done ∷ Takes 0 ∷ Posts 0 Done ∷ Takes 3 ∷ Posts 3 Done ∷
    Takes 2 ∷ Takes 0 ∷ Takes 3 ∷ Posts 3 Done ∷ Posts 2 Done ∷ Takes 3 ∷ Posts 3 Done ∷ Posts 0 Done ∷ Takes 3 ∷
    Posts 3 Done ∷ Takes 3 ∷ Posts 3 Done ∷ Takes 3 ∷ Posts 3 Done ∷ Takes 2 ∷ Posts 2 Done ∷ Takes 0 ∷ Posts 0 Done ∷
    []

abbrev pub history : List Entry
history =
    marked 5 (Phase 1) ∷ marked 5 (Cut 4 0) ∷ marked 2 (Fell falls.Script None) ∷ marked 2 (Rose []) ∷
    marked 2 (Wrote records.Life) ∷ marked 1 (Fell falls.Script None) ∷ marked 3 (Called commands.Begin) ∷
    marked 3 (Told (replies.Began (tx 0 1))) ∷ marked 3 (Called (commands.Do 0 0)) ∷
    marked 3 (Sent 0 0 (messages.Request (tx 0 1) 1 0 (wants.Read (first_read 0 0)))) ∷ marked 0 (Got 0) ∷
    marked 0 (Sent 1 3 (messages.Answer 0 (answers.Granted (whole_grant 1 0 [])))) ∷ marked 3 (Got 1) ∷
    marked 3 (Sent 2 0 (messages.Request (tx 0 1) 1 1 (wants.Append 0 [] (own_line 1 0 0 ∷ [])))) ∷
    marked 3 (Sent 3 1 (messages.Request (tx 0 1) 1 0 (wants.Append 0 [] (own_line 1 0 0 ∷ [])))) ∷
    marked 3 (Sent 4 2 (messages.Request (tx 0 1) 1 0 (wants.Append 0 [] (own_line 1 0 0 ∷ [])))) ∷ marked 3 (Lost 3) ∷
    marked 2 (Got 4) ∷ marked 2 (Sent 5 3 (messages.Answer 4 (answers.Granted (whole_grant 2 0 [])))) ∷ marked 0 (Got 2)
    ∷
    marked 3 (Got 5) ∷ marked 0 (Sent 6 3 (messages.Answer 2 (answers.Granted (whole_grant 1 0 [])))) ∷ marked 3 (Got 6)
    ∷
    marked 3 (Told (replies.Quorum halves.Append 2 3)) ∷ marked 3 (Called commands.Abort) ∷
    marked 3 (Sent 7 0 (messages.Decision (tx 0 1) outcomes.Aborted)) ∷
    marked 3 (Sent 8 1 (messages.Decision (tx 0 1) outcomes.Aborted)) ∷
    marked 3 (Sent 9 2 (messages.Decision (tx 0 1) outcomes.Aborted)) ∷ marked 3 (Told replies.Dropped) ∷
    marked 3 (Called commands.Begin) ∷ marked 2 (Got 9) ∷ marked 0 (Got 7) ∷ marked 3 (Told (replies.Began (tx 0 2))) ∷
    marked 3 (Called (commands.Do 0 0))
    ∷ marked 3 (Sent 10 0 (messages.Request (tx 0 2) 1 0 (wants.Read (first_read 0 0)))) ∷
    marked 0 (Got 10) ∷ marked 0 (Sent 11 3 (messages.Answer 10 (answers.Granted (whole_grant 1 0 []))))
    ∷ marked 3 (Got 11) ∷
    marked 3 (Sent 12 0 (messages.Request (tx 0 2) 1 1 (wants.Append 0 [] (own_line 1 0 0 ∷ [])))) ∷
    marked 3 (Sent 13 1 (messages.Request (tx 0 2) 1 0 (wants.Append 0 [] (own_line 1 0 0 ∷ [])))) ∷
    marked 3 (Sent 14 2 (messages.Request (tx 0 2) 1 0 (wants.Append 0 [] (own_line 1 0 0 ∷ [])))) ∷ marked 2 (Got 14) ∷
    marked 0 (Got 12) ∷ marked 3 (Lost 13)
    ∷ marked 2 (Sent 15 3 (messages.Answer 14 (answers.Granted (whole_grant 2 0 [])))) ∷
    marked 3 (Got 15) ∷ marked 0 (Sent 16 3 (messages.Answer 12 (answers.Granted (whole_grant 1 0 []))))
    ∷ marked 3 (Got 16) ∷
    marked 3 (Told (replies.Quorum halves.Append 2 3)) ∷ marked 3 (Called (commands.Do 0 0)) ∷
    marked 3 (Told replies.Doomed) ∷ marked 3 (Called commands.Commit) ∷
    marked 3 (Sent 17 0 (messages.Decision (tx 0 2) outcomes.Aborted)) ∷
    marked 3 (Sent 18 1 (messages.Decision (tx 0 2) outcomes.Aborted)) ∷
    marked 3 (Sent 19 2 (messages.Decision (tx 0 2) outcomes.Aborted)) ∷
    marked 3 (Told (replies.Aborted causes.Doomed)) ∷ marked 2 (Got 19) ∷ marked 0 (Got 17) ∷ []
