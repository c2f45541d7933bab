-- Random: sites 5, clients 2, steps 68, messages 25, aborts 1, falls 2, rises 1, unwritten records 1.
use Rattle.std.specs.Prelude.{List, [], ◌∷◌, Some, None, false}
use Rattle.qc_decl.specs.declared.declaration.Declaration.{Declaration}
use Rattle.qc_decl.specs.Vocabulary.{row}
use Rattle.qc_msg.specs.Vocabulary.{Entry, marked}
use Rattle.tests_histories.specs.Words.{tx, own_line, prepare, declaration, kind, pair, plan}
use Rattle.qc_msg.specs.declared.step.Step.TheVariants.{Phase, Called, Got, Wrote, Sent, Told, Armed, Fell, Rose}
use Rattle.qc_msg.specs.declared.turn.Appended.TheVariants.{Done, Failed}
use Rattle.tests_falls.specs.Perform.{Move, Begins, Acts, Takes, Posts, Rises}
use Rattle.qc_msg.specs.declared.message.Answer.TheVariants as answers
use Rattle.qc_msg.specs.declared.reply.AbortCause.TheVariants as causes
use Rattle.qc_msg.specs.declared.step.Command.TheVariants as commands
use Rattle.qc_msg.specs.declared.message.Message.TheVariants as messages
use Rattle.qc_msg.specs.declared.message.Outcome.TheVariants as outcomes
use Rattle.qc_msg.specs.declared.record.Record.TheVariants as records
use Rattle.qc_msg.specs.declared.reply.Reply.TheVariants as replies
use Rattle.qc_msg.specs.declared.message.Want.TheVariants as wants
use Rattle.qc_msg.specs.declared.step.Fall.TheVariants as falls
use Rattle.qc_msg.specs.Vocabulary.{whole_grant}
use Rattle.qc_outside.specs.declared.disk.ArmKind.TheVariants as arms

abbrev pub decl : Declaration
decl =
    declaration 5 2 (kind 2 3 3 0 (row 0 0 0 0 ∷ row 1 0 1 1 ∷ row 0 1 2 0 ∷ row 1 1 2 0 ∷ row 0 2 2 1 ∷ row 1 2 2 1 ∷
    []) (pair 0 2 ∷ pair 0 3 ∷ []) ∷ []) (0 ∷ 0 ∷ []) (plan (1 ∷ 1 ∷ 1 ∷ 1 ∷ 1 ∷ []) ((3 ∷ 0 ∷ 0 ∷ []) ∷ (1 ∷ 0 ∷ 0 ∷
    []) ∷ []) ((0 ∷ 0 ∷ 3 ∷ 3 ∷ []) ∷ (3 ∷ 0 ∷ 5 ∷ 5 ∷ []) ∷ []) ∷ plan (2 ∷ 1 ∷ 1 ∷ 1 ∷ 1 ∷ []) ((4 ∷ 0 ∷ 0 ∷ []) ∷ (3
    ∷ 3 ∷ 0 ∷ []) ∷ []) ((6 ∷ 6 ∷ 6 ∷ 3 ∷ []) ∷ (3 ∷ 0 ∷ 4 ∷ 4 ∷ []) ∷ []) ∷ plan (0 ∷ 1 ∷ 1 ∷ 3 ∷ 1 ∷ []) ((4 ∷ 0 ∷ 0 ∷
    []) ∷ (4 ∷ 0 ∷ 0 ∷ []) ∷ []) ((0 ∷ 0 ∷ 3 ∷ 3 ∷ []) ∷ (0 ∷ 0 ∷ 3 ∷ 3 ∷ []) ∷ []) ∷ [])

abbrev pub moves : List Move
moves =
    Begins ∷ Begins ∷ Acts ∷ Begins ∷ Acts ∷ Acts ∷ Rises false Done ∷ Takes 6 ∷ Posts 6 Done ∷ Takes 6 ∷ Posts 6 Done ∷
    Takes 4 ∷ Takes 3 ∷ Posts 3 Done ∷ Posts 4 Done ∷ Takes 1 ∷ Posts 1 Done ∷ Takes 2 ∷ Posts 2 Done ∷ Takes 0 ∷
    Posts 0 Done ∷ Takes 6 ∷ Posts 6 Done ∷ Takes 6 ∷ Posts 6 Done ∷ Takes 6 ∷ Posts 6 Done ∷ Takes 6 ∷ Posts 6 Done ∷
    Takes 6 ∷ Posts 6 Done ∷ Takes 6 ∷ Posts 6 Done ∷ Takes 1 ∷ Takes 4 ∷ Posts 4 Done ∷ Posts 1 Done ∷ Takes 3 ∷
    Posts 3 Failed ∷ Takes 2 ∷ Posts 2 Done ∷ Takes 0 ∷ Posts 0 Done ∷ Takes 6 ∷ Posts 6 Done ∷ Takes 6 ∷ Posts 6 Done ∷
    Takes 6 ∷ Posts 6 Done ∷ Takes 6 ∷ Posts 6 Done ∷ Takes 6 ∷ Posts 6 Done ∷ Takes 1 ∷ Posts 1 Done ∷ Takes 4 ∷
    Posts 4 Done ∷ Takes 2 ∷ Posts 2 Done ∷ Takes 0 ∷ Posts 0 Done ∷ []

abbrev pub history : List Entry
history =
    marked 8 (Phase 1) ∷ marked 8 (Phase 2) ∷ marked 8 (Armed 4 arms.Stop 4) ∷ marked 8 (Phase 3) ∷
    marked 8 (Armed 0 arms.Stop 9) ∷ marked 1 (Fell falls.Script None) ∷ marked 1 (Rose []) ∷
    marked 1 (Wrote records.Life) ∷ marked 6 (Called commands.Begin) ∷ marked 6 (Told (replies.Began (tx 1 1))) ∷
    marked 6 (Called (commands.Do 1 1)) ∷
    marked 6 (Sent 0 1 (messages.Request (tx 1 1) 1 0 (wants.Append 1 [] (own_line 1 1 2 ∷ [])))) ∷
    marked 6 (Sent 1 2 (messages.Request (tx 1 1) 1 0 (wants.Append 1 [] (own_line 1 1 2 ∷ [])))) ∷
    marked 6 (Sent 2 3 (messages.Request (tx 1 1) 1 0 (wants.Append 1 [] (own_line 1 1 2 ∷ [])))) ∷
    marked 6 (Sent 3 4 (messages.Request (tx 1 1) 1 0 (wants.Append 1 [] (own_line 1 1 2 ∷ [])))) ∷
    marked 6 (Sent 4 0 (messages.Request (tx 1 1) 1 0 (wants.Append 1 [] (own_line 1 1 2 ∷ [])))) ∷ marked 4 (Got 3) ∷
    marked 3 (Got 2) ∷ marked 3 (Sent 5 6 (messages.Answer 2 (answers.Granted (whole_grant 1 0 [])))) ∷
    marked 4 (Sent 6 6 (messages.Answer 3 (answers.Granted (whole_grant 1 0 [])))) ∷ marked 1 (Got 0) ∷
    marked 1 (Sent 7 6 (messages.Answer 0 (answers.Granted (whole_grant 2 0 [])))) ∷ marked 2 (Got 1) ∷
    marked 2 (Sent 8 6 (messages.Answer 1 (answers.Granted (whole_grant 1 0 [])))) ∷ marked 0 (Got 4) ∷
    marked 0 (Sent 9 6 (messages.Answer 4 (answers.Granted (whole_grant 1 0 [])))) ∷ marked 6 (Got 5) ∷ marked 6 (Got 6)
    ∷
    marked 6 (Got 7) ∷ marked 6 (Got 8) ∷ marked 6 (Got 9) ∷ marked 6 (Told (replies.Response 2)) ∷
    marked 6 (Called commands.Commit) ∷ marked 6 (Sent 10 1 (messages.Request (tx 1 1) 1 2 wants.Prepare)) ∷
    marked 6 (Sent 11 2 (messages.Request (tx 1 1) 1 1 wants.Prepare)) ∷
    marked 6 (Sent 12 3 (messages.Request (tx 1 1) 1 1 wants.Prepare)) ∷
    marked 6 (Sent 13 4 (messages.Request (tx 1 1) 1 1 wants.Prepare)) ∷
    marked 6 (Sent 14 0 (messages.Request (tx 1 1) 1 1 wants.Prepare)) ∷ marked 1 (Got 10) ∷ marked 4 (Got 13) ∷
    marked 4 (Wrote (prepare (tx 1 1) 1 [] (own_line 1 1 2 ∷ []) [])) ∷
    marked 4 (Sent 15 6 (messages.Answer 13 (answers.Yes 0))) ∷
    marked 1 (Wrote (prepare (tx 1 1) 1 [] (own_line 1 1 2 ∷ []) [])) ∷
    marked 1 (Sent 16 6 (messages.Answer 10 (answers.Yes 0))) ∷ marked 3 (Got 12) ∷
    marked 3 (Sent 17 6 (messages.Answer 12 answers.Fault)) ∷
    marked 3 (Fell falls.Disk (Some (prepare (tx 1 1) 1 [] (own_line 1 1 2 ∷ []) []))) ∷ marked 2 (Got 11) ∷
    marked 2 (Wrote (prepare (tx 1 1) 1 [] (own_line 1 1 2 ∷ []) [])) ∷
    marked 2 (Sent 18 6 (messages.Answer 11 (answers.Yes 0))) ∷ marked 0 (Got 14) ∷
    marked 0 (Wrote (prepare (tx 1 1) 1 [] (own_line 1 1 2 ∷ []) [])) ∷
    marked 0 (Sent 19 6 (messages.Answer 14 (answers.Yes 0))) ∷ marked 6 (Got 15) ∷ marked 6 (Got 16) ∷
    marked 6 (Got 17) ∷ marked 6 (Got 18) ∷ marked 6 (Got 19) ∷
    marked 6 (Sent 20 0 (messages.Decision (tx 1 1) outcomes.Aborted)) ∷
    marked 6 (Sent 21 1 (messages.Decision (tx 1 1) outcomes.Aborted)) ∷
    marked 6 (Sent 22 2 (messages.Decision (tx 1 1) outcomes.Aborted)) ∷
    marked 6 (Sent 23 3 (messages.Decision (tx 1 1) outcomes.Aborted)) ∷
    marked 6 (Sent 24 4 (messages.Decision (tx 1 1) outcomes.Aborted)) ∷
    marked 6 (Told (replies.Aborted (causes.Fault 3))) ∷ marked 1 (Got 21) ∷ marked 4 (Got 24) ∷ marked 2 (Got 22) ∷
    marked 0 (Got 20) ∷ []
