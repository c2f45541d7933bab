-- Random: sites 2, clients 1, steps 52, messages 7, commits 2, falls 4, rises 3, unwritten records 2.
use Rattle.std.specs.Prelude.{List, [], ◌∷◌, Some, None, true, false}
use Rattle.qc_decl.specs.declared.declaration.Declaration.{Declaration}
use Rattle.qc_decl.specs.Vocabulary.{row}
use Rattle.qc_msg.specs.Vocabulary.{Entry, marked}
use Rattle.tests_histories.specs.Words.{tx, stamp, own_line, operation, read_lock, prepare, commit, declaration, kind}
use Rattle.tests_histories.specs.Words.{pair, plan}
use Rattle.qc_msg.specs.declared.step.Step.TheVariants.{Phase, Called, Got, Wrote, Sent, Told, Armed, Fell, Rose}
use Rattle.qc_msg.specs.declared.turn.Appended.TheVariants.{Done, Stopped}
use Rattle.tests_falls.specs.Perform.{Move, Begins, Acts, Takes, Posts, Rises}
use Rattle.qc_msg.specs.declared.message.Answer.TheVariants as answers
use Rattle.qc_msg.specs.declared.step.Command.TheVariants as commands
use Rattle.qc_msg.specs.declared.message.Message.TheVariants as messages
use Rattle.qc_msg.specs.declared.message.Outcome.TheVariants as outcomes
use Rattle.qc_msg.specs.declared.record.Record.TheVariants as records
use Rattle.qc_msg.specs.declared.reply.Reply.TheVariants as replies
use Rattle.qc_msg.specs.declared.message.Want.TheVariants as wants
use Rattle.qc_msg.specs.declared.step.Fall.TheVariants as falls
use Rattle.qc_msg.specs.Vocabulary.{whole_grant, first_read}
use Rattle.qc_outside.specs.declared.disk.ArmKind.TheVariants as arms

abbrev pub decl : Declaration
decl =
    declaration 2 1 (kind 3 3 3 0 (row 0 0 0 1 ∷ row 0 0 1 2 ∷ row 1 1 0 1 ∷ row 2 1 1 2 ∷ row 1 2 2 0 ∷ row 2 2 2 0 ∷
    row 0 2 2 0 ∷ []) (pair 0 0 ∷ pair 0 1 ∷ pair 0 4 ∷ pair 1 0 ∷ pair 1 1 ∷ pair 1 3 ∷ pair 1 4 ∷ pair 2 3 ∷ []) ∷
    kind 7 3 4 0 (row 0 0 0 1 ∷ row 0 1 0 2 ∷ row 1 0 0 3 ∷ row 1 1 0 4 ∷ row 2 0 0 5 ∷ row 2 1 0 6 ∷ row 0 2 3 0 ∷ row
    1 2 1 0 ∷ row 2 2 2 0 ∷ row 3 2 1 1 ∷ row 4 2 1 2 ∷ row 5 2 2 1 ∷ row 6 2 2 2 ∷ []) (pair 0 0 ∷ pair 0 1 ∷ pair 0 3
    ∷ pair 0 4 ∷ pair 1 0 ∷ pair 1 1 ∷ pair 1 3 ∷ pair 1 4 ∷ pair 2 0 ∷ pair 2 1 ∷ pair 2 3 ∷ pair 2 4 ∷ []) ∷ []) (1 ∷
    0 ∷ []) (plan (3 ∷ 2 ∷ []) ((3 ∷ 2 ∷ 5 ∷ []) ∷ (3 ∷ 3 ∷ 3 ∷ []) ∷ []) ((4 ∷ 4 ∷ 1 ∷ 4 ∷ 4 ∷ []) ∷ (3 ∷ 3 ∷ 0 ∷ 3 ∷ 3
    ∷ []) ∷ []) ∷ [])

abbrev pub moves : List Move
moves =
    Begins ∷ Acts ∷ Rises false Done ∷ Acts ∷ Takes 2 ∷ Posts 2 Done ∷ Takes 2 ∷ Posts 2 Done ∷ Takes 0 ∷ Posts 0 Done ∷
    Takes 2 ∷ Posts 2 Done ∷ Takes 0 ∷ Posts 0 Done ∷ Takes 2 ∷ Posts 2 Done ∷ Takes 2 ∷ Posts 2 Done ∷ Takes 2 ∷
    Posts 2 Done ∷ Takes 2 ∷ Posts 2 Done ∷ Takes 0 ∷ Posts 0 Done ∷ Takes 2 ∷ Posts 2 Done ∷ Takes 0 ∷ Takes 2 ∷
    Posts 2 Done ∷ Takes 2 ∷ Posts 0 Done ∷ Posts 2 Done ∷ Begins ∷ Takes 2 ∷ Posts 2 Done ∷ Begins ∷ Acts ∷
    Rises false Stopped ∷ Takes 2 ∷ Posts 2 Done ∷ Takes 2 ∷ Posts 2 Done ∷ Takes 2 ∷ Posts 2 Done ∷ Begins ∷
    Rises true Stopped ∷ Takes 2 ∷ Posts 2 Done ∷ []

abbrev pub history : List Entry
history =
    marked 4 (Phase 1) ∷ marked 0 (Fell falls.Script None) ∷ marked 0 (Rose []) ∷ marked 0 (Wrote records.Life) ∷
    marked 4 (Armed 2 arms.Fail 1) ∷ marked 2 (Called commands.Begin) ∷ marked 2 (Told (replies.Began (tx 0 1))) ∷
    marked 2 (Called (commands.Do 1 0)) ∷
    marked 2 (Sent 0 0 (messages.Request (tx 0 1) 1 0 (wants.Read (first_read 1 0))))
    ∷
    marked 0 (Got 0) ∷ marked 0 (Sent 1 2 (messages.Answer 0 (answers.Granted (whole_grant 2 0 [])))) ∷ marked 2 (Got 1)
    ∷
    marked 2 (Sent 2 0 (messages.Request (tx 0 1) 1 2 (wants.Append 1 [] (own_line 1 1 0 ∷ [])))) ∷ marked 0 (Got 2) ∷
    marked 0 (Sent 3 2 (messages.Answer 2 (answers.Granted (whole_grant 2 0 [])))) ∷ marked 2 (Got 1) ∷ marked 2 (Got 3)
    ∷
    marked 2 (Told (replies.Response 0)) ∷ marked 2 (Got 3) ∷ marked 2 (Called commands.Commit) ∷
    marked 2 (Sent 4 0 (messages.Request (tx 0 1) 1 2 wants.Prepare)) ∷ marked 0 (Got 4) ∷
    marked 0 (Wrote (prepare (tx 0 1) 1 (read_lock 1 0 ∷ []) (own_line 1 1 0 ∷ []) [])) ∷
    marked 0 (Sent 5 2 (messages.Answer 4 (answers.Yes 0))) ∷ marked 2 (Got 5) ∷
    marked 2 (Wrote (commit (stamp 1 0) (tx 0 1) (operation 1 0 (Some 0) ∷ []))) ∷
    marked 2 (Sent 6 0 (messages.Decision (tx 0 1) (outcomes.Committed (stamp 1 0)))) ∷
    marked 2 (Told (replies.Committed (stamp 1 0))) ∷ marked 0 (Got 6) ∷ marked 2 (Got 5) ∷
    marked 2 (Called commands.Begin) ∷ marked 0 (Wrote (records.Done (tx 0 1) 1)) ∷
    marked 2 (Told (replies.Began (tx 0 2))) ∷ marked 4 (Phase 2) ∷ marked 2 (Called commands.Commit) ∷
    marked 2 (Wrote (commit (stamp 2 0) (tx 0 2) [])) ∷ marked 2 (Told (replies.Committed (stamp 2 0))) ∷
    marked 4 (Phase 3) ∷ marked 2 (Fell falls.Script None) ∷
    marked 2 (Rose ((commit (stamp 1 0) (tx 0 1) (operation 1 0 (Some 0) ∷ [])) ∷ (commit (stamp 2 0) (tx 0 2) []) ∷
    [])) ∷
    marked 2 (Fell falls.Stop (Some records.Life)) ∷ marked 2 (Called commands.Begin) ∷ marked 2 (Told replies.Down) ∷
    marked 2 (Called commands.Commit) ∷ marked 2 (Told replies.Down) ∷ marked 2 (Called commands.Begin) ∷
    marked 2 (Told replies.Down) ∷ marked 4 (Phase 4) ∷
    marked 2 (Rose ((commit (stamp 1 0) (tx 0 1) (operation 1 0 (Some 0) ∷ [])) ∷ (commit (stamp 2 0) (tx 0 2) []) ∷
    records.Life ∷ [])) ∷
    marked 2 (Fell falls.Stop (Some records.Life)) ∷ marked 2 (Called commands.Commit) ∷ marked 2 (Told replies.Down) ∷
    []
