-- Random: sites 5, clients 1, steps 52, messages 4, cuts 1, commits 1, falls 4, rises 4, unwritten records 1.
use Rattle.std.specs.Prelude.{List, [], ◌∷◌, Some, None, true, false}
use Rattle.qc_decl.specs.declared.declaration.Declaration.{Declaration}
use Rattle.qc_decl.specs.Vocabulary.{row}
use Rattle.qc_msg.specs.Vocabulary.{Entry, marked}
use Rattle.tests_histories.specs.Words.{tx, stamp, own_line, operation, prepare, commit, declaration, kind, pair, plan}
use Rattle.qc_msg.specs.declared.step.Step.TheVariants.{Phase, Cut, Heal, Called, Got, Wrote, Sent, Told, Armed, Fell}
use Rattle.qc_msg.specs.declared.step.Step.TheVariants.{Rose}
use Rattle.qc_msg.specs.declared.turn.Appended.TheVariants.{Done, Failed}
use Rattle.tests_falls.specs.Perform.{Move, Begins, Acts, Takes, Posts, Rises}
use Rattle.qc_msg.specs.declared.message.Answer.TheVariants as answers
use Rattle.qc_msg.specs.declared.step.Command.TheVariants as commands
use Rattle.qc_msg.specs.declared.message.Message.TheVariants as messages
use Rattle.qc_msg.specs.declared.record.Record.TheVariants as records
use Rattle.qc_msg.specs.declared.reply.Reply.TheVariants as replies
use Rattle.qc_msg.specs.declared.message.Want.TheVariants as wants
use Rattle.qc_msg.specs.declared.step.Fall.TheVariants as falls
use Rattle.qc_msg.specs.Vocabulary.{whole_grant}
use Rattle.qc_outside.specs.declared.disk.ArmKind.TheVariants as arms

abbrev pub decl : Declaration
decl =
    declaration 5 1 (kind 3 3 3 0 (row 0 0 0 1 ∷ row 0 0 1 2 ∷ row 1 1 0 1 ∷ row 2 1 1 2 ∷ row 1 2 2 0 ∷ row 2 2 2 0 ∷
    row 0 2 2 0 ∷ []) (pair 0 0 ∷ pair 0 1 ∷ pair 0 3 ∷ pair 0 4 ∷ pair 1 0 ∷ pair 1 1 ∷ pair 1 4 ∷ []) ∷ kind 2 3 3 0
    (row 0 0 0 0 ∷ row 1 0 1 1 ∷ row 0 1 2 0 ∷ row 1 1 2 0 ∷ row 0 2 2 1 ∷ row 1 2 2 1 ∷ []) (pair 0 0 ∷ pair 0 2 ∷ pair
    0 3 ∷ []) ∷ []) (1 ∷ []) (plan (1 ∷ 1 ∷ 1 ∷ 1 ∷ 2 ∷ []) ((6 ∷ 5 ∷ 0 ∷ []) ∷ []) ((1 ∷ 2 ∷ 1 ∷ 1 ∷ []) ∷ []) ∷ plan
    (1 ∷ 1 ∷ 1 ∷ 0 ∷ 1 ∷ []) ((3 ∷ 0 ∷ 0 ∷ []) ∷ []) ((2 ∷ 0 ∷ 2 ∷ 2 ∷ []) ∷ []) ∷ [])

abbrev pub moves : List Move
moves =
    Begins ∷ Acts ∷ Acts ∷ Rises false Done ∷ Acts ∷ Takes 5 ∷ Posts 5 Done ∷ Takes 5 ∷ Posts 5 Done ∷ Begins ∷ Acts ∷
    Acts ∷ Rises false Done ∷ Acts ∷ Rises false Done ∷ Takes 5 ∷ Posts 5 Done ∷ Takes 5 ∷ Posts 5 Done ∷ Takes 0 ∷
    Posts 0 Done ∷ Takes 5 ∷ Posts 5 Done ∷ Takes 5 ∷ Posts 5 Done ∷ Takes 0 ∷ Posts 0 Done ∷ Takes 5 ∷ Posts 5 Failed ∷
    Begins ∷ Acts ∷ Takes 5 ∷ Posts 5 Done ∷ Takes 5 ∷ Posts 5 Done ∷ Takes 5 ∷ Posts 5 Done ∷ Takes 5 ∷ Posts 5 Done ∷
    Takes 5 ∷ Posts 5 Done ∷ Begins ∷ Acts ∷ Rises true Done ∷ Acts ∷ []

abbrev pub history : List Entry
history =
    marked 7 (Phase 1) ∷ marked 7 (Cut 1 4) ∷ marked 2 (Fell falls.Script None) ∷ marked 2 (Rose []) ∷
    marked 2 (Wrote records.Life) ∷ marked 7 (Armed 5 arms.Fail 4) ∷ marked 5 (Called commands.Begin) ∷
    marked 5 (Told (replies.Began (tx 0 1))) ∷ marked 5 (Called commands.Commit) ∷
    marked 5 (Wrote (commit (stamp 1 0) (tx 0 1) [])) ∷ marked 5 (Told (replies.Committed (stamp 1 0))) ∷
    marked 7 (Phase 2) ∷ marked 7 (Heal 1 4) ∷ marked 0 (Fell falls.Script None) ∷ marked 0 (Rose []) ∷
    marked 0 (Wrote records.Life) ∷ marked 3 (Fell falls.Script None) ∷ marked 3 (Rose []) ∷
    marked 3 (Wrote records.Life) ∷ marked 5 (Called commands.Begin) ∷ marked 5 (Told (replies.Began (tx 0 2))) ∷
    marked 5 (Called (commands.Do 0 2)) ∷
    marked 5 (Sent 0 0 (messages.Request (tx 0 2) 1 0 (wants.Append 0 [] (own_line 1 0 3 ∷ [])))) ∷ marked 0 (Got 0) ∷
    marked 0 (Sent 1 5 (messages.Answer 0 (answers.Granted (whole_grant 2 0 [])))) ∷ marked 5 (Got 1) ∷
    marked 5 (Told (replies.Response 2)) ∷ marked 5 (Called commands.Commit) ∷
    marked 5 (Sent 2 0 (messages.Request (tx 0 2) 1 2 wants.Prepare)) ∷ marked 0 (Got 2) ∷
    marked 0 (Wrote (prepare (tx 0 2) 1 [] (own_line 1 0 3 ∷ []) [])) ∷
    marked 0 (Sent 3 5 (messages.Answer 2 (answers.Yes 0))) ∷ marked 5 (Got 3) ∷ marked 5 (Told replies.Unknown) ∷
    marked 5 (Fell falls.Disk (Some (commit (stamp 2 0) (tx 0 2) (operation 0 2 (Some 2) ∷ [])))) ∷ marked 7 (Phase 3) ∷
    marked 7 (Armed 0 arms.Fail 8) ∷ marked 5 (Called commands.Begin) ∷ marked 5 (Told replies.Down) ∷
    marked 5 (Called (commands.Do 0 2)) ∷ marked 5 (Told replies.Down) ∷ marked 5 (Called commands.Commit) ∷
    marked 5 (Told replies.Down) ∷ marked 5 (Called commands.Begin) ∷ marked 5 (Told replies.Down) ∷
    marked 5 (Called (commands.Do 0 1)) ∷ marked 5 (Told replies.Down) ∷ marked 7 (Phase 4) ∷
    marked 7 (Armed 3 arms.Fail 2) ∷
    marked 5 (Rose ((commit (stamp 1 0) (tx 0 1) []) ∷ (commit (stamp 2 0) (tx 0 2) (operation 0 2 (Some 2) ∷ [])) ∷
    [])) ∷
    marked 5 (Wrote records.Life) ∷ marked 7 (Armed 5 arms.Stop 8) ∷ []
