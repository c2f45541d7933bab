-- Random: sites 1, clients 1, steps 74, messages 22, commits 2, falls 1, rises 1.
use Rattle.std.specs.Prelude.{List, [], ◌∷◌, Some, None, false}
use Rattle.qc_decl.specs.declared.declaration.Declaration.{Declaration}
use Rattle.qc_decl.specs.Vocabulary.{row}
use Rattle.qc_msg.specs.Vocabulary.{Entry, marked}
use Rattle.tests_histories.specs.Words.{tx, stamp, line, own_line, operation, read_lock, prepare, commit, declaration}
use Rattle.tests_histories.specs.Words.{kind, pair, plan}
use Rattle.qc_msg.specs.declared.step.Step.TheVariants.{Phase, Called, Got, Wrote, Sent, Told, Armed, Fell, Rose}
use Rattle.qc_msg.specs.declared.turn.Appended.TheVariants.{Done}
use Rattle.tests_falls.specs.Perform.{Move, Begins, Acts, Takes, Posts, Rises}
use Rattle.qc_msg.specs.declared.message.Answer.TheVariants as answers
use Rattle.qc_msg.specs.declared.step.Command.TheVariants as commands
use Rattle.qc_msg.specs.declared.message.Message.TheVariants as messages
use Rattle.qc_msg.specs.declared.message.Outcome.TheVariants as outcomes
use Rattle.qc_msg.specs.declared.record.Record.TheVariants as records
use Rattle.qc_msg.specs.declared.reply.Reply.TheVariants as replies
use Rattle.qc_msg.specs.declared.message.Want.TheVariants as wants
use Rattle.qc_msg.specs.declared.step.Fall.TheVariants as falls
use Rattle.qc_msg.specs.Vocabulary.{whole_grant, first_read}
use Rattle.qc_outside.specs.declared.disk.ArmKind.TheVariants as arms

abbrev pub decl : Declaration
decl =
    declaration 1 1 (kind 2 2 3 0 (row 0 0 0 1 ∷ row 1 0 1 1 ∷ row 0 1 2 0 ∷ row 1 1 2 0 ∷ []) (pair 0 0 ∷ pair 0 2 ∷
    pair 1 2 ∷ []) ∷ kind 2 3 3 0 (row 0 0 0 0 ∷ row 1 0 1 1 ∷ row 0 1 2 0 ∷ row 1 1 2 0 ∷ row 0 2 2 1 ∷ row 1 2 2 1 ∷
    []) (pair 0 2 ∷ pair 0 3 ∷ []) ∷ []) (0 ∷ []) (plan (1 ∷ []) ((1 ∷ 1 ∷ []) ∷ []) ((1 ∷ 0 ∷ 1 ∷ []) ∷ []) ∷ [])

abbrev pub moves : List Move
moves =
    Begins ∷ Acts ∷ Rises false Done ∷ Acts ∷ Takes 1 ∷ Posts 1 Done ∷ Takes 1 ∷ Posts 1 Done ∷ Takes 0 ∷ Posts 0 Done ∷
    Takes 1 ∷ Posts 1 Done ∷ Takes 0 ∷ Posts 0 Done ∷ Takes 1 ∷ Posts 1 Done ∷ Takes 1 ∷ Posts 1 Done ∷ Takes 0 ∷
    Posts 0 Done ∷ Takes 1 ∷ Posts 1 Done ∷ Takes 1 ∷ Posts 1 Done ∷ Takes 0 ∷ Posts 0 Done ∷ Takes 1 ∷ Posts 1 Done ∷
    Takes 1 ∷ Posts 1 Done ∷ Takes 0 ∷ Posts 0 Done ∷ Takes 1 ∷ Posts 1 Done ∷ Takes 0 ∷ Posts 0 Done ∷ Begins ∷
    Takes 1 ∷ Posts 1 Done ∷ Takes 1 ∷ Posts 1 Done ∷ Takes 0 ∷ Posts 0 Done ∷ Takes 1 ∷ Posts 1 Done ∷ Takes 0 ∷
    Posts 0 Done ∷ Takes 1 ∷ Posts 1 Done ∷ Takes 1 ∷ Posts 1 Done ∷ Takes 0 ∷ Posts 0 Done ∷ Takes 1 ∷ Posts 1 Done ∷
    Takes 0 ∷ Posts 0 Done ∷ Takes 1 ∷ Posts 1 Done ∷ Takes 1 ∷ Posts 1 Done ∷ Takes 0 ∷ Posts 0 Done ∷ Takes 1 ∷
    Posts 1 Done ∷ Takes 0 ∷ Posts 0 Done ∷ []

abbrev pub history : List Entry
history =
    marked 3 (Phase 1) ∷ marked 0 (Fell falls.Script None) ∷ marked 0 (Rose []) ∷ marked 0 (Wrote records.Life) ∷
    marked 3 (Armed 1 arms.Stop 7) ∷ marked 1 (Called commands.Begin) ∷ marked 1 (Told (replies.Began (tx 0 1))) ∷
    marked 1 (Called (commands.Do 0 0)) ∷
    marked 1 (Sent 0 0 (messages.Request (tx 0 1) 1 0 (wants.Read (first_read 0 0))))
    ∷
    marked 0 (Got 0) ∷ marked 0 (Sent 1 1 (messages.Answer 0 (answers.Granted (whole_grant 2 0 [])))) ∷ marked 1 (Got 1)
    ∷
    marked 1 (Sent 2 0 (messages.Request (tx 0 1) 1 2 (wants.Append 0 [] (own_line 1 0 0 ∷ [])))) ∷ marked 0 (Got 2) ∷
    marked 0 (Sent 3 1 (messages.Answer 2 (answers.Granted (whole_grant 2 0 [])))) ∷ marked 1 (Got 3) ∷
    marked 1 (Told (replies.Response 0)) ∷ marked 1 (Called (commands.Do 0 0)) ∷
    marked 1 (Sent 4 0 (messages.Request (tx 0 1) 1 2 (wants.Read (first_read 0 0)))) ∷ marked 0 (Got 4) ∷
    marked 0 (Sent 5 1 (messages.Answer 4 (answers.Granted (whole_grant 2 0 [])))) ∷ marked 1 (Got 5) ∷
    marked 1 (Told (replies.Response 1)) ∷ marked 1 (Called (commands.Do 0 0)) ∷
    marked 1 (Sent 6 0 (messages.Request (tx 0 1) 1 2 (wants.Read (first_read 0 0)))) ∷ marked 0 (Got 6) ∷
    marked 0 (Sent 7 1 (messages.Answer 6 (answers.Granted (whole_grant 2 0 [])))) ∷ marked 1 (Got 7) ∷
    marked 1 (Told (replies.Response 1)) ∷ marked 1 (Called commands.Commit) ∷
    marked 1 (Sent 8 0 (messages.Request (tx 0 1) 1 2 wants.Prepare)) ∷ marked 0 (Got 8) ∷
    marked 0 (Wrote (prepare (tx 0 1) 1 (read_lock 0 0 ∷ []) (own_line 1 0 0 ∷ []) [])) ∷
    marked 0 (Sent 9 1 (messages.Answer 8 (answers.Yes 0))) ∷ marked 1 (Got 9) ∷
    marked 1 (Wrote (commit (stamp 1 0) (tx 0 1) (operation 0 0 (Some 0) ∷ operation 0 0 (Some 1) ∷ operation 0 0 (Some
    1) ∷ []))) ∷
    marked 1 (Sent 10 0 (messages.Decision (tx 0 1) (outcomes.Committed (stamp 1 0)))) ∷
    marked 1 (Told (replies.Committed (stamp 1 0))) ∷ marked 0 (Got 10) ∷ marked 0 (Wrote (records.Done (tx 0 1) 1)) ∷
    marked 3 (Phase 2) ∷ marked 1 (Called commands.Begin) ∷ marked 1 (Told (replies.Began (tx 0 2))) ∷
    marked 1 (Called (commands.Do 0 1))
    ∷ marked 1 (Sent 11 0 (messages.Request (tx 0 2) 1 0 (wants.Read (first_read 0 1)))) ∷
    marked 0 (Got 11)
    ∷ marked 0 (Sent 12 1 (messages.Answer 11 (answers.Granted (whole_grant 2 1 (line 1 0 1 1 0 0 ∷ []))))) ∷
    marked 1 (Got 12) ∷
    marked 1 (Sent 13 0 (messages.Request (tx 0 2) 1 2 (wants.Append 0 (line 1 0 1 1 0 0 ∷ []) (own_line 1 0 2 ∷ []))))
    ∷
    marked 0 (Got 13) ∷ marked 0 (Sent 14 1 (messages.Answer 13 (answers.Granted (whole_grant 2 1 []))))
    ∷ marked 1 (Got 14) ∷
    marked 1 (Told (replies.Response 2)) ∷ marked 1 (Called (commands.Do 0 0)) ∷
    marked 1 (Sent 15 0 (messages.Request (tx 0 2) 1 2 (wants.Read (first_read 0 0)))) ∷ marked 0 (Got 15) ∷
    marked 0 (Sent 16 1 (messages.Answer 15 (answers.Granted (whole_grant 2 1 (line 1 0 1 1 0 0 ∷ [])))))
    ∷ marked 1 (Got 16) ∷
    marked 1 (Sent 17 0 (messages.Request (tx 0 2) 1 2 (wants.Append 0 (line 1 0 1 1 0 0 ∷ []) (own_line 1 0 2 ∷
    own_line 2 0 0 ∷ [])))) ∷
    marked 0 (Got 17) ∷ marked 0 (Sent 18 1 (messages.Answer 17 (answers.Granted (whole_grant 2 1 []))))
    ∷ marked 1 (Got 18) ∷
    marked 1 (Told (replies.Response 0)) ∷ marked 1 (Called commands.Commit) ∷
    marked 1 (Sent 19 0 (messages.Request (tx 0 2) 1 2 wants.Prepare)) ∷ marked 0 (Got 19) ∷
    marked 0 (Wrote (prepare (tx 0 2) 1 (read_lock 0 0 ∷ read_lock 0 1 ∷ []) (own_line 1 0 2 ∷ own_line 2 0 0 ∷ []) []))
    ∷
    marked 0 (Sent 20 1 (messages.Answer 19 (answers.Yes 1))) ∷ marked 1 (Got 20) ∷
    marked 1 (Wrote (commit (stamp 2 0) (tx 0 2) (operation 0 1 (Some 2) ∷ operation 0 0 (Some 0) ∷ []))) ∷
    marked 1 (Sent 21 0 (messages.Decision (tx 0 2) (outcomes.Committed (stamp 2 0)))) ∷
    marked 1 (Told (replies.Committed (stamp 2 0))) ∷ marked 0 (Got 21) ∷ marked 0 (Wrote (records.Done (tx 0 2) 2)) ∷
    []
