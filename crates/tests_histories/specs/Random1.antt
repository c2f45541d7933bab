-- Random: sites 2, clients 2, steps 42, messages 10, cuts 1, commits 1, absent 1.
use Rattle.std.specs.Prelude.{List, [], ◌∷◌, None}
use Rattle.qc_decl.specs.declared.declaration.Declaration.{Declaration}
use Rattle.qc_decl.specs.Vocabulary.{row}
use Rattle.qc_msg.specs.Vocabulary.{Entry, marked}
use Rattle.tests_histories.specs.Play.{Move, Takes, Posts, Acts}
use Rattle.tests_histories.specs.Words.{tx, stamp, operation, read_lock, prepare, commit, declaration, kind, pair, plan}
use Rattle.qc_msg.specs.declared.step.Step.TheVariants.{Phase, Cut, Heal, Called, Got, Wrote, Sent, Told}
use Rattle.qc_msg.specs.declared.message.Answer.TheVariants as answers
use Rattle.qc_msg.specs.declared.step.Command.TheVariants as commands
use Rattle.qc_msg.specs.declared.message.Message.TheVariants as messages
use Rattle.qc_msg.specs.declared.message.Outcome.TheVariants as outcomes
use Rattle.qc_msg.specs.declared.record.Record.TheVariants as records
use Rattle.qc_msg.specs.declared.reply.Reply.TheVariants as replies
use Rattle.qc_msg.specs.declared.message.Want.TheVariants as wants
use Rattle.qc_msg.specs.Vocabulary.{whole_grant, first_read}

abbrev pub decl : Declaration
decl =
    declaration 2 2 (kind 2 2 3 0 (row 0 0 0 1 ∷ row 1 0 1 1 ∷ row 0 1 2 0 ∷ row 1 1 2 0 ∷ []) (pair 0 0 ∷ pair 0 2 ∷
    []) ∷ kind 2 2 2 0 (row 0 0 0 1 ∷ row 1 1 1 0 ∷ []) (pair 0 0 ∷ pair 0 1 ∷ pair 1 0 ∷ pair 1 1 ∷ []) ∷ []) (1 ∷ [])
    (plan (2 ∷ 1 ∷ []) ((3 ∷ 2 ∷ []) ∷ []) ((2 ∷ 2 ∷ []) ∷ []) ∷ [])

abbrev pub moves : List Move
moves =
    Acts (Phase 1) ∷ Acts (Cut 0 3) ∷ Acts (Phase 2) ∷ Acts (Heal 0 3) ∷ Acts (Phase 3) ∷
    Takes 3 (Called commands.Begin) ∷ Posts 3 ∷ Takes 3 (Called (commands.Do 0 1)) ∷ Posts 3 ∷ Takes 1 (Got 0) ∷
    Posts 1 ∷ Takes 0 (Got 1) ∷ Posts 0 ∷ Takes 3 (Got 2) ∷ Posts 3 ∷ Takes 3 (Got 3) ∷ Posts 3 ∷
    Takes 3 (Called commands.Commit) ∷ Posts 3 ∷ Takes 1 (Got 4) ∷ Posts 1 ∷ Takes 0 (Got 5) ∷ Posts 0 ∷
    Takes 3 (Got 6) ∷ Posts 3 ∷ Takes 3 (Got 7) ∷ Posts 3 ∷ Takes 0 (Got 8) ∷ Posts 0 ∷ Takes 1 (Got 9) ∷ Posts 1 ∷
    Acts (Phase 4) ∷ Acts (Phase 5) ∷ Takes 2 (Called commands.Begin) ∷ Posts 2 ∷ Takes 2 (Called commands.Begin) ∷
    Posts 2 ∷ []

abbrev pub history : List Entry
history =
    marked 5 (Phase 1) ∷ marked 5 (Cut 0 3) ∷ marked 5 (Phase 2) ∷ marked 5 (Heal 0 3) ∷ marked 5 (Phase 3) ∷
    marked 3 (Called commands.Begin) ∷ marked 3 (Told (replies.Began (tx 1 1))) ∷ marked 3 (Called (commands.Do 0 1)) ∷
    marked 3 (Sent 0 1 (messages.Request (tx 1 1) 1 0 (wants.Read (first_read 0 1)))) ∷
    marked 3 (Sent 1 0 (messages.Request (tx 1 1) 1 0 (wants.Read (first_read 0 1)))) ∷ marked 1 (Got 0) ∷
    marked 1 (Sent 2 3 (messages.Answer 0 (answers.Granted (whole_grant 1 0 [])))) ∷ marked 0 (Got 1) ∷
    marked 0 (Sent 3 3 (messages.Answer 1 (answers.Granted (whole_grant 1 0 [])))) ∷ marked 3 (Got 2) ∷ marked 3 (Got 3)
    ∷
    marked 3 (Told replies.Absent) ∷ marked 3 (Called commands.Commit) ∷
    marked 3 (Sent 4 1 (messages.Request (tx 1 1) 1 1 wants.Prepare)) ∷
    marked 3 (Sent 5 0 (messages.Request (tx 1 1) 1 1 wants.Prepare)) ∷ marked 1 (Got 4) ∷
    marked 1 (Wrote (prepare (tx 1 1) 1 (read_lock 0 1 ∷ []) [] [])) ∷
    marked 1 (Sent 6 3 (messages.Answer 4 (answers.Yes 0))) ∷ marked 0 (Got 5) ∷
    marked 0 (Wrote (prepare (tx 1 1) 1 (read_lock 0 1 ∷ []) [] [])) ∷
    marked 0 (Sent 7 3 (messages.Answer 5 (answers.Yes 0))) ∷ marked 3 (Got 6) ∷ marked 3 (Got 7) ∷
    marked 3 (Wrote (commit (stamp 1 1) (tx 1 1) (operation 0 1 None ∷ []))) ∷
    marked 3 (Sent 8 0 (messages.Decision (tx 1 1) (outcomes.Committed (stamp 1 1)))) ∷
    marked 3 (Sent 9 1 (messages.Decision (tx 1 1) (outcomes.Committed (stamp 1 1)))) ∷
    marked 3 (Told (replies.Committed (stamp 1 1))) ∷ marked 0 (Got 8) ∷ marked 0 (Wrote (records.Done (tx 1 1) 1)) ∷
    marked 1 (Got 9) ∷ marked 1 (Wrote (records.Done (tx 1 1) 1)) ∷ marked 5 (Phase 4) ∷ marked 5 (Phase 5) ∷
    marked 2 (Called commands.Begin) ∷ marked 2 (Told (replies.Began (tx 0 1))) ∷ marked 2 (Called commands.Begin) ∷
    marked 2 (Told (replies.Already (tx 0 1))) ∷ []
