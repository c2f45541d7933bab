-- Random: sites 1, clients 1, steps 52, messages 5, cuts 1, commits 1, absent 1, falls 2, rises 1.
use Rattle.std.specs.Prelude.{List, [], ◌∷◌, None, false}
use Rattle.qc_decl.specs.declared.declaration.Declaration.{Declaration}
use Rattle.qc_decl.specs.Vocabulary.{row}
use Rattle.qc_msg.specs.Vocabulary.{Entry, marked}
use Rattle.tests_histories.specs.Words.{tx, stamp, operation, read_lock, prepare, commit, declaration, kind, pair, plan}
use Rattle.qc_msg.specs.declared.step.Step.TheVariants.{Phase, Cut, Called, Got, Wrote, Sent, Told, Fell, Rose}
use Rattle.qc_msg.specs.declared.turn.Appended.TheVariants.{Done}
use Rattle.tests_falls.specs.Perform.{Move, Begins, Acts, Takes, Posts, Rises}
use Rattle.qc_msg.specs.declared.message.Answer.TheVariants as answers
use Rattle.qc_msg.specs.declared.step.Command.TheVariants as commands
use Rattle.qc_msg.specs.declared.message.Message.TheVariants as messages
use Rattle.qc_msg.specs.declared.message.Outcome.TheVariants as outcomes
use Rattle.qc_msg.specs.declared.record.Record.TheVariants as records
use Rattle.qc_msg.specs.declared.reply.Reply.TheVariants as replies
use Rattle.qc_msg.specs.declared.message.Want.TheVariants as wants
use Rattle.qc_msg.specs.declared.step.Fall.TheVariants as falls
use Rattle.qc_msg.specs.Vocabulary.{whole_grant, first_read}

abbrev pub decl : Declaration
decl =
    declaration 1 1 (kind 3 3 2 0 (row 0 0 1 0 ∷ row 1 0 1 1 ∷ row 1 1 1 1 ∷ row 1 2 1 1 ∷ row 2 0 0 1 ∷ row 2 0 1 0 ∷
    row 2 1 1 0 ∷ row 2 1 0 1 ∷ row 2 2 1 1 ∷ []) (pair 2 4 ∷ []) ∷ []) (0 ∷ 0 ∷ []) (plan (1 ∷ []) ((1 ∷ 0 ∷ 1 ∷ []) ∷
    (0 ∷ 0 ∷ 1 ∷ []) ∷ []) ((1 ∷ 1 ∷ 0 ∷ 0 ∷ 1 ∷ []) ∷ (0 ∷ 1 ∷ 0 ∷ 1 ∷ 1 ∷ []) ∷ []) ∷ [])

abbrev pub moves : List Move
moves =
    Begins ∷ Takes 1 ∷ Posts 1 Done ∷ Takes 1 ∷ Posts 1 Done ∷ Takes 0 ∷ Posts 0 Done ∷ Takes 1 ∷ Posts 1 Done ∷
    Takes 1 ∷ Posts 1 Done ∷ Takes 0 ∷ Posts 0 Done ∷ Takes 1 ∷ Posts 1 Done ∷ Takes 0 ∷ Posts 0 Done ∷ Begins ∷ Acts ∷
    Acts ∷ Takes 1 ∷ Posts 1 Done ∷ Takes 1 ∷ Posts 1 Done ∷ Takes 1 ∷ Posts 1 Done ∷ Takes 1 ∷ Posts 1 Done ∷ Takes 1 ∷
    Posts 1 Done ∷ Begins ∷ Rises false Done ∷ Takes 1 ∷ Posts 1 Done ∷ Takes 1 ∷ Posts 1 Done ∷ Takes 1 ∷
    Posts 1 Done ∷ Takes 1 ∷ Posts 1 Done ∷ Begins ∷ Acts ∷ Takes 1 ∷ Posts 1 Done ∷ Takes 1 ∷ Posts 1 Done ∷ Takes 1 ∷
    Posts 1 Done ∷ []

abbrev pub history : List Entry
history =
    marked 3 (Phase 1) ∷ marked 1 (Called commands.Begin) ∷ marked 1 (Told (replies.Began (tx 0 1))) ∷
    marked 1 (Called (commands.Do 0 2)) ∷
    marked 1 (Sent 0 0 (messages.Request (tx 0 1) 1 0 (wants.Read (first_read 0 2))))
    ∷
    marked 0 (Got 0) ∷ marked 0 (Sent 1 1 (messages.Answer 0 (answers.Granted (whole_grant 1 0 [])))) ∷ marked 1 (Got 1)
    ∷
    marked 1 (Told replies.Absent) ∷ marked 1 (Called commands.Commit) ∷
    marked 1 (Sent 2 0 (messages.Request (tx 0 1) 1 1 wants.Prepare)) ∷ marked 0 (Got 2) ∷
    marked 0 (Wrote (prepare (tx 0 1) 1 (read_lock 0 2 ∷ []) [] [])) ∷
    marked 0 (Sent 3 1 (messages.Answer 2 (answers.Yes 0))) ∷ marked 1 (Got 3) ∷
    marked 1 (Wrote (commit (stamp 1 0) (tx 0 1) (operation 0 2 None ∷ []))) ∷
    marked 1 (Sent 4 0 (messages.Decision (tx 0 1) (outcomes.Committed (stamp 1 0)))) ∷
    marked 1 (Told (replies.Committed (stamp 1 0))) ∷ marked 0 (Got 4) ∷ marked 0 (Wrote (records.Done (tx 0 1) 1)) ∷
    marked 3 (Phase 2) ∷ marked 0 (Fell falls.Script None) ∷ marked 1 (Fell falls.Script None) ∷
    marked 1 (Called commands.Begin) ∷ marked 1 (Told replies.Down) ∷ marked 1 (Called (commands.Do 1 1)) ∷
    marked 1 (Told replies.Down) ∷ marked 1 (Called (commands.Do 0 0)) ∷ marked 1 (Told replies.Down) ∷
    marked 1 (Called (commands.Do 0 2)) ∷ marked 1 (Told replies.Down) ∷ marked 1 (Called commands.Commit) ∷
    marked 1 (Told replies.Down) ∷ marked 3 (Phase 3) ∷
    marked 0 (Rose ((prepare (tx 0 1) 1 (read_lock 0 2 ∷ []) [] []) ∷ (records.Done (tx 0 1) 1) ∷ [])) ∷
    marked 0 (Wrote records.Life) ∷ marked 1 (Called commands.Begin) ∷ marked 1 (Told replies.Down) ∷
    marked 1 (Called (commands.Do 1 0)) ∷ marked 1 (Told replies.Down) ∷ marked 1 (Called commands.Begin) ∷
    marked 1 (Told replies.Down) ∷ marked 1 (Called commands.Commit) ∷ marked 1 (Told replies.Down) ∷
    marked 3 (Phase 4) ∷ marked 3 (Cut 0 1) ∷ marked 1 (Called commands.Begin) ∷ marked 1 (Told replies.Down) ∷
    marked 1 (Called (commands.Do 0 1)) ∷ marked 1 (Told replies.Down) ∷ marked 1 (Called commands.Commit) ∷
    marked 1 (Told replies.Down) ∷ []
