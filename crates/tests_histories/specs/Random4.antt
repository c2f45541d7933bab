-- Random: sites 1, clients 1, steps 62, messages 15, lost 2, cuts 1, commits 2, conflicts 1, short rounds 2, absent 1.
use Rattle.std.specs.Prelude.{List, [], ◌∷◌}
use Rattle.qc_decl.specs.declared.declaration.Declaration.{Declaration}
use Rattle.qc_decl.specs.Vocabulary.{row}
use Rattle.qc_msg.specs.Vocabulary.{Entry, marked}
use Rattle.tests_histories.specs.Play.{Move, Takes, Posts, Acts}
use Rattle.tests_histories.specs.Words.{tx, stamp, own_line, commit, declaration, kind, pair, plan}
use Rattle.qc_msg.specs.declared.step.Step.TheVariants.{Phase, Cut, Heal, Called, Got, Lost, Wrote, Sent, Told}
use Rattle.qc_msg.specs.declared.message.Answer.TheVariants as answers
use Rattle.qc_msg.specs.declared.step.Command.TheVariants as commands
use Rattle.qc_msg.specs.declared.reply.Half.TheVariants as halves
use Rattle.qc_msg.specs.declared.message.Message.TheVariants as messages
use Rattle.qc_msg.specs.declared.message.Outcome.TheVariants as outcomes
use Rattle.qc_msg.specs.declared.reply.Reply.TheVariants as replies
use Rattle.qc_msg.specs.declared.message.Want.TheVariants as wants
use Rattle.qc_msg.specs.Vocabulary.{whole_grant, first_read}

abbrev pub decl : Declaration
decl =
    declaration 1 1 (kind 3 3 3 0 (row 0 0 0 1 ∷ row 0 0 1 2 ∷ row 1 1 0 1 ∷ row 2 1 1 2 ∷ row 1 2 2 0 ∷ row 2 2 2 0 ∷
    row 0 2 2 0 ∷ []) (pair 0 0 ∷ pair 0 1 ∷ pair 0 4 ∷ pair 1 0 ∷ pair 1 1 ∷ pair 1 4 ∷ []) ∷ []) (0 ∷ 0 ∷ []) (plan (1
    ∷ []) ((1 ∷ 1 ∷ 1 ∷ []) ∷ (1 ∷ 1 ∷ 0 ∷ []) ∷ []) ((1 ∷ 1 ∷ 1 ∷ 0 ∷ 1 ∷ []) ∷ (1 ∷ 1 ∷ 0 ∷ 1 ∷ 1 ∷ []) ∷ []) ∷ plan
    (1 ∷ []) ((1 ∷ 1 ∷ 0 ∷ []) ∷ (1 ∷ 1 ∷ 1 ∷ []) ∷ []) ((1 ∷ 1 ∷ 0 ∷ 1 ∷ 1 ∷ []) ∷ (1 ∷ 1 ∷ 1 ∷ 0 ∷ 1 ∷ []) ∷ []) ∷ [])

abbrev pub moves : List Move
moves =
    Acts (Phase 1) ∷ Takes 1 (Called commands.Begin) ∷ Posts 1 ∷ Acts (Phase 2) ∷ Acts (Cut 1 0) ∷
    Takes 1 (Called (commands.Do 1 0)) ∷ Posts 1 ∷ Takes 1 (Lost 0) ∷ Posts 1 ∷ Takes 1 (Called commands.Commit) ∷
    Posts 1 ∷ Takes 1 (Called commands.Begin) ∷ Posts 1 ∷ Takes 1 (Called (commands.Do 1 1)) ∷ Posts 1 ∷
    Takes 1 (Lost 2) ∷ Posts 1 ∷ Takes 1 (Called commands.Commit) ∷ Posts 1 ∷ Acts (Phase 3) ∷ Acts (Heal 1 0) ∷
    Takes 1 (Called commands.Begin) ∷ Posts 1 ∷ Takes 1 (Called (commands.Do 0 1)) ∷ Posts 1 ∷ Takes 0 (Got 4) ∷
    Posts 0 ∷ Takes 1 (Got 5) ∷ Posts 1 ∷ Takes 1 (Called commands.Abort) ∷ Posts 1 ∷ Takes 0 (Got 6) ∷ Posts 0 ∷
    Acts (Phase 4) ∷ Takes 1 (Got 5) ∷ Posts 1 ∷ Takes 0 (Got 4) ∷ Posts 0 ∷ Takes 1 (Got 7) ∷ Posts 1 ∷
    Takes 1 (Called commands.Begin) ∷ Posts 1 ∷ Takes 1 (Called (commands.Do 0 2)) ∷ Posts 1 ∷ Takes 0 (Got 8) ∷
    Posts 0 ∷ Takes 1 (Got 9) ∷ Posts 1 ∷ Takes 0 (Got 10) ∷ Posts 0 ∷ Takes 1 (Got 11) ∷ Posts 1 ∷ Takes 1 (Got 12) ∷
    Posts 1 ∷ Takes 0 (Got 13) ∷ Posts 0 ∷ Takes 1 (Called commands.Abort) ∷ Posts 1 ∷ Takes 0 (Got 14) ∷ Posts 0 ∷ []

abbrev pub history : List Entry
history =
    marked 3 (Phase 1) ∷ marked 1 (Called commands.Begin) ∷ marked 1 (Told (replies.Began (tx 0 1))) ∷
    marked 3 (Phase 2) ∷ marked 3 (Cut 1 0) ∷ marked 1 (Called (commands.Do 1 0)) ∷
    marked 1 (Sent 0 0 (messages.Request (tx 0 1) 1 0 (wants.Read (first_read 1 0)))) ∷ marked 1 (Lost 0) ∷
    marked 1 (Told (replies.Quorum halves.Read 0 1)) ∷ marked 1 (Called commands.Commit) ∷
    marked 1 (Wrote (commit (stamp 1 0) (tx 0 1) [])) ∷
    marked 1 (Sent 1 0 (messages.Decision (tx 0 1) (outcomes.Committed (stamp 1 0)))) ∷
    marked 1 (Told (replies.Committed (stamp 1 0))) ∷ marked 1 (Called commands.Begin) ∷
    marked 1 (Told (replies.Began (tx 0 2))) ∷ marked 1 (Called (commands.Do 1 1)) ∷
    marked 1 (Sent 2 0 (messages.Request (tx 0 2) 1 0 (wants.Read (first_read 1 1)))) ∷ marked 1 (Lost 2) ∷
    marked 1 (Told (replies.Quorum halves.Read 0 1)) ∷ marked 1 (Called commands.Commit) ∷
    marked 1 (Wrote (commit (stamp 2 0) (tx 0 2) [])) ∷
    marked 1 (Sent 3 0 (messages.Decision (tx 0 2) (outcomes.Committed (stamp 2 0)))) ∷
    marked 1 (Told (replies.Committed (stamp 2 0))) ∷ marked 3 (Phase 3) ∷ marked 3 (Heal 1 0) ∷
    marked 1 (Called commands.Begin) ∷ marked 1 (Told (replies.Began (tx 0 3))) ∷ marked 1 (Called (commands.Do 0 1)) ∷
    marked 1 (Sent 4 0 (messages.Request (tx 0 3) 1 0 (wants.Read (first_read 0 1)))) ∷ marked 0 (Got 4) ∷
    marked 0 (Sent 5 1 (messages.Answer 4 (answers.Granted (whole_grant 1 0 [])))) ∷ marked 1 (Got 5) ∷
    marked 1 (Told replies.Absent) ∷ marked 1 (Called commands.Abort) ∷
    marked 1 (Sent 6 0 (messages.Decision (tx 0 3) outcomes.Aborted)) ∷ marked 1 (Told replies.Dropped) ∷
    marked 0 (Got 6) ∷ marked 3 (Phase 4) ∷ marked 1 (Got 5) ∷ marked 0 (Got 4) ∷
    marked 0 (Sent 7 1 (messages.Answer 4 (answers.Granted (whole_grant 1 0 [])))) ∷ marked 1 (Got 7) ∷
    marked 1 (Called commands.Begin) ∷ marked 1 (Told (replies.Began (tx 0 4))) ∷ marked 1 (Called (commands.Do 0 2)) ∷
    marked 1 (Sent 8 0 (messages.Request (tx 0 4) 1 0 (wants.Read (first_read 0 2)))) ∷ marked 0 (Got 8) ∷
    marked 0 (Sent 9 1 (messages.Answer 8 (answers.Granted (whole_grant 1 0 [])))) ∷ marked 1 (Got 9) ∷
    marked 1 (Sent 10 0 (messages.Request (tx 0 4) 1 1 (wants.Append 0 [] (own_line 1 0 4 ∷ [])))) ∷ marked 0 (Got 10) ∷
    marked 0 (Sent 11 1 (messages.Answer 10 (answers.Clash (tx 0 3) 1 4))) ∷
    marked 0 (Sent 12 1 (messages.Inquiry (tx 0 3))) ∷ marked 1 (Got 11) ∷
    marked 1 (Told (replies.Conflict (tx 0 3) 0)) ∷ marked 1 (Got 12) ∷
    marked 1 (Sent 13 0 (messages.Decision (tx 0 3) outcomes.Aborted)) ∷ marked 0 (Got 13) ∷
    marked 1 (Called commands.Abort) ∷ marked 1 (Sent 14 0 (messages.Decision (tx 0 4) outcomes.Aborted)) ∷
    marked 1 (Told replies.Dropped) ∷ marked 0 (Got 14) ∷ []
