-- A site's disk fails as it writes its promise: the commit is told Fault.
use Rattle.std.specs.Prelude.{List, [], ◌∷◌, Some}
use Rattle.qc_decl.specs.declared.declaration.Declaration.{Declaration}
use Rattle.qc_decl.specs.Vocabulary.{row}
use Rattle.qc_msg.specs.Vocabulary.{Entry, marked}
use Rattle.tests_histories.specs.Words.{tx, own_line, read_lock, prepare, declaration, kind, pair, plan}
use Rattle.qc_msg.specs.declared.step.Step.TheVariants.{Phase, Called, Got, Wrote, Sent, Told, Armed, Fell}
use Rattle.qc_msg.specs.declared.turn.Appended.TheVariants.{Done, Failed}
use Rattle.tests_falls.specs.Perform.{Move, Begins, Acts, Takes, Posts}
use Rattle.qc_msg.specs.declared.message.Answer.TheVariants as answers
use Rattle.qc_msg.specs.declared.reply.AbortCause.TheVariants as causes
use Rattle.qc_msg.specs.declared.step.Command.TheVariants as commands
use Rattle.qc_msg.specs.declared.message.Message.TheVariants as messages
use Rattle.qc_msg.specs.declared.message.Outcome.TheVariants as outcomes
use Rattle.qc_msg.specs.declared.reply.Reply.TheVariants as replies
use Rattle.qc_msg.specs.declared.message.Want.TheVariants as wants
use Rattle.qc_msg.specs.declared.step.Fall.TheVariants as falls
use Rattle.qc_msg.specs.Vocabulary.{whole_grant, first_read}
use Rattle.qc_outside.specs.declared.disk.ArmKind.TheVariants as arms

abbrev pub decl : Declaration
decl =
    declaration 3 3 (kind 2 2 2 0 (row 0 0 0 1 ∷ row 1 1 1 0 ∷ []) (pair 0 0 ∷ pair 0 1 ∷ pair 1 0 ∷ pair 1 1 ∷ []) ∷
    []) (0 ∷ []) (plan (1 ∷ 1 ∷ 1 ∷ []) ((2 ∷ 2 ∷ []) ∷ []) ((2 ∷ 2 ∷ []) ∷ []) ∷ [])

abbrev pub moves : List Move
moves =
    Begins ∷ Acts ∷ Takes 3 ∷ Posts 3 Done ∷ Takes 3 ∷ Posts 3 Done ∷ Takes 0 ∷ Posts 0 Done ∷ Takes 1 ∷ Posts 1 Done ∷
    Takes 3 ∷ Posts 3 Done ∷ Takes 3 ∷ Posts 3 Done ∷ Takes 0 ∷ Posts 0 Done ∷ Takes 1 ∷ Posts 1 Done ∷ Takes 3 ∷
    Posts 3 Done ∷ Takes 3 ∷ Posts 3 Done ∷ Takes 3 ∷ Posts 3 Done ∷ Takes 0 ∷ Posts 0 Done ∷ Takes 1 ∷ Posts 1 Failed ∷
    Takes 3 ∷ Posts 3 Done ∷ Takes 3 ∷ Posts 3 Done ∷ Takes 0 ∷ Posts 0 Done ∷ []

abbrev pub history : List Entry
history =
    marked 7 (Phase 1) ∷ marked 7 (Armed 1 arms.Fail 2) ∷ marked 3 (Called commands.Begin) ∷
    marked 3 (Told (replies.Began (tx 0 1))) ∷ marked 3 (Called (commands.Do 0 0)) ∷
    marked 3 (Sent 0 0 (messages.Request (tx 0 1) 1 0 (wants.Read (first_read 0 0)))) ∷
    marked 3 (Sent 1 1 (messages.Request (tx 0 1) 1 0 (wants.Read (first_read 0 0)))) ∷ marked 0 (Got 0) ∷
    marked 0 (Sent 2 3 (messages.Answer 0 (answers.Granted (whole_grant 1 0 [])))) ∷ marked 1 (Got 1) ∷
    marked 1 (Sent 3 3 (messages.Answer 1 (answers.Granted (whole_grant 1 0 [])))) ∷ marked 3 (Got 2) ∷ marked 3 (Got 3)
    ∷
    marked 3 (Sent 4 0 (messages.Request (tx 0 1) 1 1 (wants.Append 0 [] (own_line 1 0 0 ∷ [])))) ∷
    marked 3 (Sent 5 1 (messages.Request (tx 0 1) 1 1 (wants.Append 0 [] (own_line 1 0 0 ∷ [])))) ∷ marked 0 (Got 4) ∷
    marked 0 (Sent 6 3 (messages.Answer 4 (answers.Granted (whole_grant 1 0 [])))) ∷ marked 1 (Got 5) ∷
    marked 1 (Sent 7 3 (messages.Answer 5 (answers.Granted (whole_grant 1 0 [])))) ∷ marked 3 (Got 6) ∷ marked 3 (Got 7)
    ∷
    marked 3 (Told (replies.Response 0)) ∷ marked 3 (Called commands.Commit) ∷
    marked 3 (Sent 8 0 (messages.Request (tx 0 1) 1 1 wants.Prepare)) ∷
    marked 3 (Sent 9 1 (messages.Request (tx 0 1) 1 1 wants.Prepare)) ∷ marked 0 (Got 8) ∷
    marked 0 (Wrote (prepare (tx 0 1) 1 (read_lock 0 0 ∷ []) (own_line 1 0 0 ∷ []) [])) ∷
    marked 0 (Sent 10 3 (messages.Answer 8 (answers.Yes 0))) ∷ marked 1 (Got 9) ∷
    marked 1 (Sent 11 3 (messages.Answer 9 answers.Fault)) ∷
    marked 1 (Fell falls.Disk (Some (prepare (tx 0 1) 1 (read_lock 0 0 ∷ []) (own_line 1 0 0 ∷ []) []))) ∷
    marked 3 (Got 10) ∷ marked 3 (Got 11) ∷ marked 3 (Sent 12 0 (messages.Decision (tx 0 1) outcomes.Aborted)) ∷
    marked 3 (Sent 13 1 (messages.Decision (tx 0 1) outcomes.Aborted)) ∷
    marked 3 (Told (replies.Aborted (causes.Fault 1))) ∷ marked 0 (Got 12) ∷ []
