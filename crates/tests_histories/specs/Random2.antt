-- Random: sites 3, clients 2, steps 45, messages 14, lost 2, commits 1, aborts 1, short rounds 2.
use Rattle.std.specs.Prelude.{List, [], ◌∷◌}
use Rattle.qc_decl.specs.declared.declaration.Declaration.{Declaration}
use Rattle.qc_decl.specs.Vocabulary.{row}
use Rattle.qc_msg.specs.Vocabulary.{Entry, marked}
use Rattle.tests_histories.specs.Play.{Move, Takes, Posts, Acts}
use Rattle.tests_histories.specs.Words.{tx, stamp, own_line, read_lock, prepare, commit, declaration, kind, pair, plan}
use Rattle.qc_msg.specs.declared.step.Step.TheVariants.{Phase, Called, Got, Lost, Wrote, Sent, Told}
use Rattle.qc_msg.specs.declared.message.Answer.TheVariants as answers
use Rattle.qc_msg.specs.declared.reply.AbortCause.TheVariants as causes
use Rattle.qc_msg.specs.declared.step.Command.TheVariants as commands
use Rattle.qc_msg.specs.declared.reply.Half.TheVariants as halves
use Rattle.qc_msg.specs.declared.message.Message.TheVariants as messages
use Rattle.qc_msg.specs.declared.message.Outcome.TheVariants as outcomes
use Rattle.qc_msg.specs.declared.record.Record.TheVariants as records
use Rattle.qc_msg.specs.declared.reply.Reply.TheVariants as replies
use Rattle.qc_msg.specs.declared.message.Want.TheVariants as wants
use Rattle.qc_msg.specs.Vocabulary.{whole_grant, first_read}

abbrev pub decl : Declaration
decl =
    declaration 3 2 (kind 3 3 3 0 (row 0 2 2 0 ∷ row 1 1 0 0 ∷ row 1 2 1 1 ∷ row 2 0 1 1 ∷ row 2 2 2 2 ∷ []) (pair 1 2 ∷
    pair 1 3 ∷ []) ∷ []) (0 ∷ 0 ∷ []) (plan (0 ∷ 1 ∷ 1 ∷ []) ((1 ∷ 2 ∷ 0 ∷ []) ∷ (0 ∷ 2 ∷ 0 ∷ []) ∷ []) ((2 ∷ 0 ∷ 1 ∷ 1
    ∷ []) ∷ (1 ∷ 0 ∷ 1 ∷ 1 ∷ []) ∷ []) ∷ [])

abbrev pub moves : List Move
moves =
    Acts (Phase 1) ∷ Acts (Phase 2) ∷ Takes 3 (Called commands.Begin) ∷ Takes 4 (Called commands.Begin) ∷ Posts 3 ∷
    Takes 3 (Called (commands.Do 0 2)) ∷ Posts 3 ∷ Posts 4 ∷ Takes 4 (Called (commands.Do 0 1)) ∷ Takes 2 (Got 1) ∷
    Takes 1 (Got 0) ∷ Posts 4 ∷ Posts 2 ∷ Takes 2 (Got 3) ∷ Takes 3 (Got 4) ∷ Posts 3 ∷ Posts 1 ∷ Takes 1 (Got 2) ∷
    Posts 1 ∷ Takes 3 (Lost 0) ∷ Takes 4 (Lost 2) ∷ Posts 4 ∷ Posts 2 ∷ Takes 4 (Got 7) ∷ Posts 4 ∷
    Takes 4 (Called commands.Commit) ∷ Posts 3 ∷ Takes 3 (Called commands.Commit) ∷ Posts 4 ∷ Takes 2 (Got 8) ∷
    Posts 3 ∷ Takes 1 (Got 9) ∷ Posts 1 ∷ Posts 2 ∷ Takes 4 (Got 11) ∷ Takes 2 (Got 10) ∷ Posts 2 ∷ Posts 4 ∷
    Takes 1 (Got 12) ∷ Posts 1 ∷ Takes 2 (Got 13) ∷ Posts 2 ∷ []

abbrev pub history : List Entry
history =
    marked 6 (Phase 1) ∷ marked 6 (Phase 2) ∷ marked 3 (Called commands.Begin) ∷ marked 4 (Called commands.Begin) ∷
    marked 3 (Told (replies.Began (tx 0 1))) ∷ marked 3 (Called (commands.Do 0 2)) ∷
    marked 3 (Sent 0 1 (messages.Request (tx 0 1) 1 0 (wants.Append 0 [] (own_line 1 0 0 ∷ [])))) ∷
    marked 3 (Sent 1 2 (messages.Request (tx 0 1) 1 0 (wants.Append 0 [] (own_line 1 0 0 ∷ [])))) ∷
    marked 4 (Told (replies.Began (tx 1 1))) ∷ marked 4 (Called (commands.Do 0 1)) ∷ marked 2 (Got 1) ∷
    marked 1 (Got 0) ∷ marked 4 (Sent 2 1 (messages.Request (tx 1 1) 1 0 (wants.Read (first_read 0 1)))) ∷
    marked 4 (Sent 3 2 (messages.Request (tx 1 1) 1 0 (wants.Read (first_read 0 1)))) ∷
    marked 2 (Sent 4 3 (messages.Answer 1 (answers.Granted (whole_grant 1 0 [])))) ∷ marked 2 (Got 3) ∷ marked 3 (Got 4)
    ∷
    marked 1 (Sent 5 3 (messages.Answer 0 (answers.Granted (whole_grant 1 0 [])))) ∷ marked 1 (Got 2) ∷
    marked 1 (Sent 6 4 (messages.Answer 2 (answers.Granted (whole_grant 1 0 [])))) ∷ marked 3 (Lost 0)
    ∷ marked 4 (Lost 2) ∷
    marked 2 (Sent 7 4 (messages.Answer 3 (answers.Granted (whole_grant 1 0 [])))) ∷ marked 4 (Got 7) ∷
    marked 4 (Told (replies.Quorum halves.Read 1 2)) ∷ marked 4 (Called commands.Commit) ∷
    marked 3 (Told (replies.Quorum halves.Append 1 2)) ∷ marked 3 (Called commands.Commit) ∷
    marked 4 (Sent 8 2 (messages.Request (tx 1 1) 1 1 wants.Prepare)) ∷ marked 2 (Got 8) ∷
    marked 3 (Sent 9 1 (messages.Decision (tx 0 1) outcomes.Aborted)) ∷
    marked 3 (Sent 10 2 (messages.Decision (tx 0 1) outcomes.Aborted)) ∷
    marked 3 (Told (replies.Aborted causes.Doomed)) ∷ marked 1 (Got 9) ∷
    marked 2 (Wrote (prepare (tx 1 1) 1 (read_lock 0 1 ∷ []) [] [])) ∷
    marked 2 (Sent 11 4 (messages.Answer 8 (answers.Yes 0))) ∷ marked 4 (Got 11) ∷ marked 2 (Got 10) ∷
    marked 4 (Wrote (commit (stamp 1 1) (tx 1 1) [])) ∷
    marked 4 (Sent 12 1 (messages.Decision (tx 1 1) (outcomes.Committed (stamp 1 1)))) ∷
    marked 4 (Sent 13 2 (messages.Decision (tx 1 1) (outcomes.Committed (stamp 1 1)))) ∷
    marked 4 (Told (replies.Committed (stamp 1 1))) ∷ marked 1 (Got 12) ∷ marked 2 (Got 13) ∷
    marked 2 (Wrote (records.Done (tx 1 1) 1)) ∷ []
