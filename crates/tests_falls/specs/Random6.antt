-- Random: sites 2, clients 1, steps 57, messages 8, lost 2, cuts 1, short rounds 2, falls 3, rises 2.
use Rattle.std.specs.Prelude.{List, [], ◌∷◌, None, false}
use Rattle.qc_decl.specs.declared.declaration.Declaration.{Declaration}
use Rattle.qc_decl.specs.Vocabulary.{row}
use Rattle.qc_msg.specs.Vocabulary.{Entry, marked}
use Rattle.tests_histories.specs.Words.{tx, declaration, kind, pair, plan}
use Rattle.qc_msg.specs.declared.step.Step.TheVariants.{Phase, Cut, Heal, Called, Got, Lost, Wrote, Sent, Told, Armed}
use Rattle.qc_msg.specs.declared.step.Step.TheVariants.{Fell, Rose}
use Rattle.qc_msg.specs.declared.turn.Appended.TheVariants.{Done}
use Rattle.tests_falls.specs.Perform.{Move, Begins, Acts, Takes, Posts, Rises}
use Rattle.qc_msg.specs.declared.message.Answer.TheVariants as answers
use Rattle.qc_msg.specs.declared.step.Command.TheVariants as commands
use Rattle.qc_msg.specs.declared.reply.Half.TheVariants as halves
use Rattle.qc_msg.specs.declared.message.Message.TheVariants as messages
use Rattle.qc_msg.specs.declared.message.Outcome.TheVariants as outcomes
use Rattle.qc_msg.specs.declared.record.Record.TheVariants as records
use Rattle.qc_msg.specs.declared.reply.Reply.TheVariants as replies
use Rattle.qc_msg.specs.declared.message.Want.TheVariants as wants
use Rattle.qc_msg.specs.declared.step.Fall.TheVariants as falls
use Rattle.qc_msg.specs.Vocabulary.{whole_grant, first_read}
use Rattle.qc_outside.specs.declared.disk.ArmKind.TheVariants as arms

abbrev pub decl : Declaration
decl =
    declaration 2 1 (kind 3 1 1 0 (row 0 0 0 0 ∷ row 1 0 0 0 ∷ []) [] ∷ kind 2 3 2 0 (row 0 0 1 0 ∷ row 0 1 0 1 ∷ row 1
    0 1 0 ∷ row 1 0 0 1 ∷ row 1 1 0 0 ∷ row 1 2 0 1 ∷ []) (pair 0 0 ∷ pair 0 1 ∷ pair 2 0 ∷ pair 2 1 ∷ []) ∷ []) (0 ∷
    []) (plan (1 ∷ 1 ∷ []) ((2 ∷ []) ∷ []) ((2 ∷ []) ∷ []) ∷ [])

abbrev pub moves : List Move
moves =
    Begins ∷ Takes 2 ∷ Posts 2 Done ∷ Begins ∷ Acts ∷ Acts ∷ Acts ∷ Takes 2 ∷ Posts 2 Done ∷ Takes 0 ∷ Posts 0 Done ∷
    Takes 2 ∷ Posts 2 Done ∷ Takes 2 ∷ Posts 2 Done ∷ Takes 2 ∷ Posts 2 Done ∷ Takes 0 ∷ Posts 0 Done ∷ Takes 2 ∷
    Posts 2 Done ∷ Takes 2 ∷ Posts 2 Done ∷ Takes 2 ∷ Posts 2 Done ∷ Takes 0 ∷ Posts 0 Done ∷ Begins ∷ Acts ∷ Acts ∷
    Acts ∷ Takes 2 ∷ Posts 2 Done ∷ Takes 2 ∷ Posts 2 Done ∷ Takes 2 ∷ Posts 2 Done ∷ Takes 2 ∷ Posts 2 Done ∷ Takes 2 ∷
    Posts 2 Done ∷ Takes 2 ∷ Posts 2 Done ∷ Takes 2 ∷ Posts 2 Done ∷ Takes 2 ∷ Posts 2 Done ∷ Begins ∷
    Rises false Done ∷ Rises false Done ∷ Takes 2 ∷ Posts 2 Done ∷ Takes 2 ∷ Posts 2 Done ∷ []

abbrev pub history : List Entry
history =
    marked 4 (Phase 1) ∷ marked 2 (Called commands.Begin) ∷ marked 2 (Told (replies.Began (tx 0 1))) ∷
    marked 4 (Phase 2) ∷ marked 4 (Cut 2 1) ∷ marked 4 (Armed 0 arms.Stop 3) ∷ marked 1 (Fell falls.Script None) ∷
    marked 2 (Called (commands.Do 0 0)) ∷
    marked 2 (Sent 0 0 (messages.Request (tx 0 1) 1 0 (wants.Read (first_read 0 0))))
    ∷
    marked 2 (Sent 1 1 (messages.Request (tx 0 1) 1 0 (wants.Read (first_read 0 0)))) ∷ marked 0 (Got 0) ∷
    marked 0 (Sent 2 2 (messages.Answer 0 (answers.Granted (whole_grant 1 0 [])))) ∷ marked 2 (Got 2) ∷
    marked 2 (Lost 1)
    ∷
    marked 2 (Told (replies.Quorum halves.Read 1 2)) ∷ marked 2 (Called (commands.Do 0 0)) ∷
    marked 2 (Sent 3 0 (messages.Request (tx 0 1) 1 1 (wants.Read (first_read 0 0)))) ∷
    marked 2 (Sent 4 1 (messages.Request (tx 0 1) 1 0 (wants.Read (first_read 0 0)))) ∷ marked 0 (Got 3) ∷
    marked 0 (Sent 5 2 (messages.Answer 3 (answers.Granted (whole_grant 1 0 [])))) ∷ marked 2 (Got 5) ∷
    marked 2 (Lost 4)
    ∷
    marked 2 (Told (replies.Quorum halves.Read 1 2)) ∷ marked 2 (Called commands.Abort) ∷
    marked 2 (Sent 6 0 (messages.Decision (tx 0 1) outcomes.Aborted)) ∷
    marked 2 (Sent 7 1 (messages.Decision (tx 0 1) outcomes.Aborted)) ∷ marked 2 (Told replies.Dropped) ∷
    marked 0 (Got 6) ∷ marked 4 (Phase 3) ∷ marked 4 (Heal 2 1) ∷ marked 0 (Fell falls.Script None) ∷
    marked 2 (Fell falls.Script None) ∷ marked 2 (Called commands.Begin) ∷ marked 2 (Told replies.Down) ∷
    marked 2 (Called (commands.Do 0 0)) ∷ marked 2 (Told replies.Down) ∷ marked 2 (Called (commands.Do 0 0)) ∷
    marked 2 (Told replies.Down) ∷ marked 2 (Called (commands.Do 0 0)) ∷ marked 2 (Told replies.Down) ∷
    marked 2 (Called commands.Commit) ∷ marked 2 (Told replies.Down) ∷ marked 2 (Called commands.Begin) ∷
    marked 2 (Told replies.Down) ∷ marked 2 (Called (commands.Do 0 0)) ∷ marked 2 (Told replies.Down) ∷
    marked 2 (Called commands.Abort) ∷ marked 2 (Told replies.Down) ∷ marked 4 (Phase 4) ∷ marked 0 (Rose []) ∷
    marked 0 (Wrote records.Life) ∷ marked 1 (Rose []) ∷ marked 1 (Wrote records.Life) ∷
    marked 2 (Called commands.Begin) ∷ marked 2 (Told replies.Down) ∷ marked 2 (Called commands.Commit) ∷
    marked 2 (Told replies.Down) ∷ []
