-- Random: sites 5, clients 2, steps 112, messages 40, commits 1, aborts 1, conflicts 1, falls 1, rises 1.
use Rattle.std.specs.Prelude.{List, [], ◌∷◌, Some, None, false}
use Rattle.qc_decl.specs.declared.declaration.Declaration.{Declaration}
use Rattle.qc_decl.specs.Vocabulary.{row}
use Rattle.qc_msg.specs.Vocabulary.{Entry, marked}
use Rattle.tests_histories.specs.Words.{tx, stamp, own_line, operation, read_lock, prepare, commit, declaration, kind}
use Rattle.tests_histories.specs.Words.{pair, plan}
use Rattle.qc_msg.specs.declared.step.Step.TheVariants.{Phase, Called, Got, Wrote, Sent, Told, Armed, Fell, Rose}
use Rattle.qc_msg.specs.declared.turn.Appended.TheVariants.{Done}
use Rattle.tests_falls.specs.Perform.{Move, Begins, Acts, Takes, Posts, Rises}
use Rattle.qc_msg.specs.declared.message.Answer.TheVariants as answers
use Rattle.qc_msg.specs.declared.reply.AbortCause.TheVariants as causes
use Rattle.qc_msg.specs.declared.step.Command.TheVariants as commands
use Rattle.qc_msg.specs.declared.message.Message.TheVariants as messages
use Rattle.qc_msg.specs.declared.message.Outcome.TheVariants as outcomes
use Rattle.qc_msg.specs.declared.record.Record.TheVariants as records
use Rattle.qc_msg.specs.declared.reply.Reply.TheVariants as replies
use Rattle.qc_msg.specs.declared.message.Want.TheVariants as wants
use Rattle.qc_msg.specs.declared.step.Fall.TheVariants as falls
use Rattle.qc_msg.specs.Vocabulary.{whole_grant, first_read}
use Rattle.qc_outside.specs.declared.disk.ArmKind.TheVariants as arms

abbrev pub decl : Declaration
decl =
    declaration 5 2 (kind 3 3 5 0 (row 0 0 0 1 ∷ row 1 0 0 2 ∷ row 2 0 1 2 ∷ row 0 1 1 0 ∷ row 1 1 0 0 ∷ row 2 1 0 1 ∷
    row 0 2 2 0 ∷ row 1 2 3 1 ∷ row 2 2 4 2 ∷ []) (pair 0 0 ∷ pair 0 3 ∷ pair 0 4 ∷ pair 1 0 ∷ pair 1 3 ∷ pair 2 0 ∷
    pair 2 3 ∷ []) ∷ []) (0 ∷ []) (plan (1 ∷ 1 ∷ 1 ∷ 1 ∷ 1 ∷ []) ((3 ∷ 3 ∷ 3 ∷ []) ∷ []) ((3 ∷ 0 ∷ 0 ∷ 3 ∷ 3 ∷ 0 ∷ 0 ∷
    []) ∷ []) ∷ plan (1 ∷ 1 ∷ 1 ∷ 1 ∷ 1 ∷ []) ((3 ∷ 3 ∷ 3 ∷ []) ∷ []) ((3 ∷ 0 ∷ 5 ∷ 3 ∷ 3 ∷ 0 ∷ 0 ∷ []) ∷ []) ∷ plan (0
    ∷ 1 ∷ 1 ∷ 3 ∷ 1 ∷ []) ((6 ∷ 5 ∷ 2 ∷ []) ∷ []) ((5 ∷ 0 ∷ 4 ∷ 5 ∷ 1 ∷ 0 ∷ 0 ∷ []) ∷ []) ∷ [])

abbrev pub moves : List Move
moves =
    Begins ∷ Acts ∷ Rises false Done ∷ Acts ∷ Acts ∷ Takes 5 ∷ Posts 5 Done ∷ Takes 5 ∷ Posts 5 Done ∷ Takes 2 ∷
    Takes 0 ∷ Takes 1 ∷ Posts 0 Done ∷ Posts 2 Done ∷ Posts 1 Done ∷ Takes 6 ∷ Posts 6 Done ∷ Takes 5 ∷ Posts 5 Done ∷
    Takes 6 ∷ Posts 6 Done ∷ Takes 3 ∷ Takes 1 ∷ Posts 1 Done ∷ Takes 2 ∷ Posts 2 Done ∷ Posts 3 Done ∷ Takes 5 ∷
    Posts 5 Done ∷ Takes 5 ∷ Posts 5 Done ∷ Takes 6 ∷ Posts 6 Done ∷ Takes 6 ∷ Posts 6 Done ∷ Takes 6 ∷ Posts 6 Done ∷
    Takes 1 ∷ Posts 1 Done ∷ Takes 2 ∷ Takes 5 ∷ Posts 5 Done ∷ Posts 2 Done ∷ Takes 1 ∷ Posts 1 Done ∷ Takes 3 ∷
    Posts 3 Done ∷ Takes 5 ∷ Posts 5 Done ∷ Takes 2 ∷ Posts 2 Done ∷ Takes 6 ∷ Posts 6 Done ∷ Takes 6 ∷ Posts 6 Done ∷
    Takes 6 ∷ Posts 6 Done ∷ Takes 6 ∷ Posts 6 Done ∷ Takes 6 ∷ Posts 6 Done ∷ Takes 6 ∷ Posts 6 Done ∷ Takes 2 ∷
    Posts 2 Done ∷ Takes 1 ∷ Posts 1 Done ∷ Takes 3 ∷ Posts 3 Done ∷ Begins ∷ Takes 5 ∷ Posts 5 Done ∷ Takes 2 ∷
    Takes 1 ∷ Posts 2 Done ∷ Posts 1 Done ∷ Takes 0 ∷ Takes 5 ∷ Posts 5 Done ∷ Takes 5 ∷ Posts 5 Done ∷ Posts 0 Done ∷
    Takes 5 ∷ Posts 5 Done ∷ Takes 5 ∷ Posts 5 Done ∷ Takes 1 ∷ Posts 1 Done ∷ Takes 2 ∷ Posts 2 Done ∷ Takes 5 ∷
    Posts 5 Done ∷ Takes 5 ∷ Posts 5 Done ∷ Takes 0 ∷ Posts 0 Done ∷ Takes 5 ∷ Posts 5 Done ∷ Takes 2 ∷ Posts 2 Done ∷
    Takes 1 ∷ Posts 1 Done ∷ Takes 0 ∷ Posts 0 Done ∷ []

abbrev pub history : List Entry
history =
    marked 8 (Phase 1) ∷ marked 0 (Fell falls.Script None) ∷ marked 0 (Rose []) ∷ marked 0 (Wrote records.Life) ∷
    marked 8 (Armed 2 arms.Stop 7) ∷ marked 8 (Armed 4 arms.Stop 4) ∷ marked 5 (Called commands.Begin) ∷
    marked 5 (Told (replies.Began (tx 0 1))) ∷ marked 5 (Called (commands.Do 0 1)) ∷
    marked 5 (Sent 0 0 (messages.Request (tx 0 1) 1 0 (wants.Read (first_read 0 1)))) ∷
    marked 5 (Sent 1 1 (messages.Request (tx 0 1) 1 0 (wants.Read (first_read 0 1)))) ∷
    marked 5 (Sent 2 2 (messages.Request (tx 0 1) 1 0 (wants.Read (first_read 0 1)))) ∷ marked 2 (Got 2) ∷
    marked 0 (Got 0)
    ∷
    marked 1 (Got 1) ∷ marked 0 (Sent 3 5 (messages.Answer 0 (answers.Granted (whole_grant 2 0 [])))) ∷
    marked 2 (Sent 4 5 (messages.Answer 2 (answers.Granted (whole_grant 1 0 [])))) ∷
    marked 1 (Sent 5 5 (messages.Answer 1 (answers.Granted (whole_grant 1 0 [])))) ∷ marked 6 (Called commands.Begin) ∷
    marked 6 (Told (replies.Began (tx 1 1))) ∷ marked 5 (Got 3) ∷ marked 6 (Called (commands.Do 0 0)) ∷
    marked 6 (Sent 6 1 (messages.Request (tx 1 1) 1 0 (wants.Read (first_read 0 0)))) ∷
    marked 6 (Sent 7 2 (messages.Request (tx 1 1) 1 0 (wants.Read (first_read 0 0)))) ∷
    marked 6 (Sent 8 3 (messages.Request (tx 1 1) 1 0 (wants.Read (first_read 0 0)))) ∷ marked 3 (Got 8) ∷
    marked 1 (Got 6)
    ∷
    marked 1 (Sent 9 6 (messages.Answer 6 (answers.Granted (whole_grant 1 0 [])))) ∷ marked 2 (Got 7) ∷
    marked 2 (Sent 10 6 (messages.Answer 7 (answers.Granted (whole_grant 1 0 [])))) ∷
    marked 3 (Sent 11 6 (messages.Answer 8 (answers.Granted (whole_grant 1 0 [])))) ∷ marked 5 (Got 4) ∷
    marked 5 (Got 5)
    ∷
    marked 5 (Told (replies.Response 1)) ∷ marked 6 (Got 9) ∷ marked 6 (Got 10) ∷ marked 6 (Got 11) ∷
    marked 6 (Sent 12 1 (messages.Request (tx 1 1) 1 1 (wants.Append 0 [] (own_line 1 0 0 ∷ [])))) ∷
    marked 6 (Sent 13 2 (messages.Request (tx 1 1) 1 1 (wants.Append 0 [] (own_line 1 0 0 ∷ [])))) ∷
    marked 6 (Sent 14 3 (messages.Request (tx 1 1) 1 1 (wants.Append 0 [] (own_line 1 0 0 ∷ [])))) ∷ marked 1 (Got 12) ∷
    marked 1 (Sent 15 6 (messages.Answer 12 (answers.Clash (tx 0 1) 1 0))) ∷
    marked 1 (Sent 16 5 (messages.Inquiry (tx 0 1))) ∷ marked 2 (Got 13) ∷ marked 5 (Got 16) ∷
    marked 5 (Sent 17 1 (messages.Decision (tx 0 1) outcomes.Active)) ∷
    marked 2 (Sent 18 6 (messages.Answer 13 (answers.Clash (tx 0 1) 1 0))) ∷
    marked 2 (Sent 19 5 (messages.Inquiry (tx 0 1))) ∷ marked 1 (Got 17) ∷ marked 3 (Got 14) ∷
    marked 3 (Sent 20 6 (messages.Answer 14 (answers.Granted (whole_grant 1 0 [])))) ∷ marked 5 (Got 19) ∷
    marked 5 (Sent 21 2 (messages.Decision (tx 0 1) outcomes.Active)) ∷ marked 2 (Got 21) ∷ marked 6 (Got 15) ∷
    marked 6 (Got 18) ∷ marked 6 (Got 20) ∷ marked 6 (Told (replies.Conflict (tx 0 1) 1)) ∷
    marked 6 (Called (commands.Do 0 0)) ∷ marked 6 (Told replies.Doomed) ∷ marked 6 (Called (commands.Do 0 1)) ∷
    marked 6 (Told replies.Doomed) ∷ marked 6 (Called commands.Commit) ∷
    marked 6 (Sent 22 1 (messages.Decision (tx 1 1) outcomes.Aborted)) ∷
    marked 6 (Sent 23 2 (messages.Decision (tx 1 1) outcomes.Aborted)) ∷
    marked 6 (Sent 24 3 (messages.Decision (tx 1 1) outcomes.Aborted)) ∷
    marked 6 (Told (replies.Aborted causes.Doomed)) ∷ marked 2 (Got 23) ∷ marked 1 (Got 22) ∷ marked 3 (Got 24) ∷
    marked 8 (Phase 2) ∷ marked 5 (Called (commands.Do 0 1)) ∷
    marked 5 (Sent 25 0 (messages.Request (tx 0 1) 1 2 (wants.Read (first_read 0 1)))) ∷
    marked 5 (Sent 26 1 (messages.Request (tx 0 1) 1 1 (wants.Read (first_read 0 1)))) ∷
    marked 5 (Sent 27 2 (messages.Request (tx 0 1) 1 1 (wants.Read (first_read 0 1)))) ∷ marked 2 (Got 27)
    ∷ marked 1 (Got 26) ∷
    marked 2 (Sent 28 5 (messages.Answer 27 (answers.Granted (whole_grant 1 0 [])))) ∷
    marked 1 (Sent 29 5 (messages.Answer 26 (answers.Granted (whole_grant 1 0 [])))) ∷ marked 0 (Got 25)
    ∷ marked 5 (Got 28) ∷
    marked 5 (Got 29) ∷ marked 0 (Sent 30 5 (messages.Answer 25 (answers.Granted (whole_grant 2 0 []))))
    ∷ marked 5 (Got 30) ∷
    marked 5 (Told (replies.Response 1)) ∷ marked 5 (Called commands.Commit) ∷
    marked 5 (Sent 31 0 (messages.Request (tx 0 1) 1 2 wants.Prepare)) ∷
    marked 5 (Sent 32 1 (messages.Request (tx 0 1) 1 1 wants.Prepare)) ∷
    marked 5 (Sent 33 2 (messages.Request (tx 0 1) 1 1 wants.Prepare)) ∷ marked 1 (Got 32) ∷
    marked 1 (Wrote (prepare (tx 0 1) 1 (read_lock 0 1 ∷ []) [] [])) ∷
    marked 1 (Sent 34 5 (messages.Answer 32 (answers.Yes 0))) ∷ marked 2 (Got 33) ∷
    marked 2 (Wrote (prepare (tx 0 1) 1 (read_lock 0 1 ∷ []) [] [])) ∷
    marked 2 (Sent 35 5 (messages.Answer 33 (answers.Yes 0))) ∷ marked 5 (Got 34) ∷ marked 5 (Got 35) ∷
    marked 0 (Got 31) ∷ marked 0 (Wrote (prepare (tx 0 1) 1 (read_lock 0 1 ∷ []) [] [])) ∷
    marked 0 (Sent 36 5 (messages.Answer 31 (answers.Yes 0))) ∷ marked 5 (Got 36) ∷
    marked 5 (Wrote (commit (stamp 1 0) (tx 0 1) (operation 0 1 (Some 1) ∷ operation 0 1 (Some 1) ∷ []))) ∷
    marked 5 (Sent 37 0 (messages.Decision (tx 0 1) (outcomes.Committed (stamp 1 0)))) ∷
    marked 5 (Sent 38 1 (messages.Decision (tx 0 1) (outcomes.Committed (stamp 1 0)))) ∷
    marked 5 (Sent 39 2 (messages.Decision (tx 0 1) (outcomes.Committed (stamp 1 0)))) ∷
    marked 5 (Told (replies.Committed (stamp 1 0))) ∷ marked 2 (Got 39) ∷ marked 2 (Wrote (records.Done (tx 0 1) 1)) ∷
    marked 1 (Got 38) ∷ marked 1 (Wrote (records.Done (tx 0 1) 1)) ∷ marked 0 (Got 37) ∷
    marked 0 (Wrote (records.Done (tx 0 1) 1)) ∷ []
