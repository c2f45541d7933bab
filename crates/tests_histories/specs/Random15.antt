-- Random: sites 1, clients 1, steps 127, messages 29, lost 3, cuts 1, commits 6, aborts 1, conflicts 1, short rounds 2,
-- absent 1.
use Rattle.std.specs.Prelude.{List, [], ◌∷◌, Some, None}
use Rattle.qc_decl.specs.declared.declaration.Declaration.{Declaration}
use Rattle.qc_decl.specs.Vocabulary.{row}
use Rattle.qc_msg.specs.Vocabulary.{Entry, marked}
use Rattle.tests_histories.specs.Play.{Move, Takes, Posts, Acts}
use Rattle.tests_histories.specs.Words.{tx, stamp, line, own_line, operation, read_lock, prepare, commit, declaration}
use Rattle.tests_histories.specs.Words.{kind, pair, plan}
use Rattle.qc_msg.specs.declared.step.Step.TheVariants.{Phase, Cut, Heal, Called, Got, Lost, Wrote, Sent, Told}
use Rattle.qc_msg.specs.declared.message.Answer.TheVariants as answers
use Rattle.qc_msg.specs.declared.reply.AbortCause.TheVariants as causes
use Rattle.qc_msg.specs.declared.step.Command.TheVariants as commands
use Rattle.qc_msg.specs.declared.reply.Half.TheVariants as halves
use Rattle.qc_msg.specs.declared.message.Message.TheVariants as messages
use Rattle.qc_msg.specs.declared.message.Outcome.TheVariants as outcomes
use Rattle.qc_msg.specs.declared.record.Record.TheVariants as records
use Rattle.qc_msg.specs.declared.reply.Reply.TheVariants as replies
use Rattle.qc_msg.specs.declared.message.Want.TheVariants as wants
use Rattle.qc_msg.specs.Vocabulary.{whole_grant, first_read}

abbrev pub decl : Declaration
decl =
    declaration 1 1 (kind 2 2 3 0 (row 0 0 0 1 ∷ row 1 0 1 1 ∷ row 0 1 2 0 ∷ row 1 1 2 0 ∷ []) (pair 0 0 ∷ pair 0 2 ∷
    []) ∷ kind 3 2 2 0 (row 0 0 0 1 ∷ row 1 0 0 2 ∷ row 1 1 1 1 ∷ row 2 0 0 1 ∷ row 2 0 1 2 ∷ row 2 1 0 0 ∷ []) (pair 0
    0 ∷ pair 0 3 ∷ pair 1 0 ∷ pair 1 3 ∷ []) ∷ []) (1 ∷ 1 ∷ []) (plan (3 ∷ []) ((2 ∷ 2 ∷ []) ∷ (3 ∷ 3 ∷ []) ∷ []) ((2 ∷
    0 ∷ 0 ∷ 2 ∷ []) ∷ (1 ∷ 0 ∷ 0 ∷ 1 ∷ []) ∷ []) ∷ plan (1 ∷ []) ((1 ∷ 1 ∷ []) ∷ (1 ∷ 1 ∷ []) ∷ []) ((1 ∷ 1 ∷ 0 ∷ 1 ∷
    []) ∷ (1 ∷ 0 ∷ 0 ∷ 1 ∷ []) ∷ []) ∷ plan (1 ∷ []) ((1 ∷ 1 ∷ []) ∷ (1 ∷ 1 ∷ []) ∷ []) ((1 ∷ 1 ∷ 0 ∷ 1 ∷ []) ∷ (1 ∷ 0 ∷
    0 ∷ 1 ∷ []) ∷ []) ∷ [])

abbrev pub moves : List Move
moves =
    Acts (Phase 1) ∷ Takes 1 (Called commands.Begin) ∷ Posts 1 ∷ Takes 1 (Called commands.Abort) ∷ Posts 1 ∷
    Acts (Phase 2) ∷ Takes 1 (Called commands.Begin) ∷ Posts 1 ∷ Takes 1 (Called (commands.Do 1 0)) ∷ Posts 1 ∷
    Takes 0 (Got 0) ∷ Posts 0 ∷ Takes 0 (Got 0) ∷ Posts 0 ∷ Takes 1 (Got 1) ∷ Posts 1 ∷ Takes 1 (Got 1) ∷ Posts 1 ∷
    Takes 0 (Got 3) ∷ Posts 0 ∷ Takes 1 (Got 2) ∷ Posts 1 ∷ Takes 1 (Got 4) ∷ Posts 1 ∷
    Takes 1 (Called commands.Commit) ∷ Posts 1 ∷ Takes 0 (Got 5) ∷ Posts 0 ∷ Takes 1 (Got 6) ∷ Posts 1 ∷
    Takes 0 (Got 7) ∷ Posts 0 ∷ Takes 1 (Called commands.Begin) ∷ Posts 1 ∷ Takes 1 (Called commands.Commit) ∷ Posts 1 ∷
    Acts (Phase 3) ∷ Takes 1 (Called commands.Begin) ∷ Posts 1 ∷ Takes 1 (Called (commands.Do 0 1)) ∷ Posts 1 ∷
    Takes 0 (Got 8) ∷ Posts 0 ∷ Takes 1 (Got 9) ∷ Posts 1 ∷ Takes 1 (Called commands.Commit) ∷ Posts 1 ∷
    Takes 0 (Got 10) ∷ Posts 0 ∷ Takes 1 (Got 11) ∷ Posts 1 ∷ Takes 0 (Got 12) ∷ Posts 0 ∷
    Takes 1 (Called commands.Begin) ∷ Posts 1 ∷ Takes 1 (Called (commands.Do 1 1)) ∷ Posts 1 ∷ Takes 0 (Got 13) ∷
    Posts 0 ∷ Takes 1 (Got 14) ∷ Posts 1 ∷ Acts (Phase 4) ∷ Acts (Cut 0 1) ∷ Takes 1 (Got 11) ∷ Posts 1 ∷
    Takes 1 (Called commands.Commit) ∷ Posts 1 ∷ Takes 1 (Lost 15) ∷ Posts 1 ∷ Acts (Phase 5) ∷
    Takes 1 (Called commands.Begin) ∷ Posts 1 ∷ Takes 1 (Called (commands.Do 0 1)) ∷ Posts 1 ∷ Takes 1 (Lost 17) ∷
    Posts 1 ∷ Takes 1 (Called commands.Commit) ∷ Posts 1 ∷ Takes 1 (Called commands.Begin) ∷ Posts 1 ∷ Acts (Phase 6) ∷
    Takes 1 (Called commands.Commit) ∷ Posts 1 ∷ Takes 1 (Called commands.Begin) ∷ Posts 1 ∷
    Takes 1 (Called (commands.Do 1 1)) ∷ Posts 1 ∷ Takes 1 (Lost 19) ∷ Posts 1 ∷ Takes 1 (Called commands.Commit) ∷
    Posts 1 ∷ Acts (Phase 7) ∷ Acts (Heal 0 1) ∷ Takes 1 (Called commands.Begin) ∷ Posts 1 ∷
    Takes 1 (Called (commands.Do 1 1)) ∷ Posts 1 ∷ Takes 0 (Got 21) ∷ Posts 0 ∷ Takes 1 (Got 22) ∷ Posts 1 ∷
    Takes 1 (Called (commands.Do 1 0)) ∷ Posts 1 ∷ Takes 0 (Got 23) ∷ Posts 0 ∷ Takes 1 (Got 24) ∷ Posts 1 ∷
    Takes 0 (Got 25) ∷ Posts 0 ∷ Takes 1 (Got 26) ∷ Posts 1 ∷ Takes 1 (Got 27) ∷ Posts 1 ∷
    Takes 1 (Called commands.Begin) ∷ Posts 1 ∷ Takes 0 (Got 28) ∷ Posts 0 ∷ []

abbrev pub history : List Entry
history =
    marked 3 (Phase 1) ∷ marked 1 (Called commands.Begin) ∷ marked 1 (Told (replies.Began (tx 0 1))) ∷
    marked 1 (Called commands.Abort) ∷ marked 1 (Told replies.Dropped) ∷ marked 3 (Phase 2) ∷
    marked 1 (Called commands.Begin) ∷ marked 1 (Told (replies.Began (tx 0 2))) ∷ marked 1 (Called (commands.Do 1 0)) ∷
    marked 1 (Sent 0 0 (messages.Request (tx 0 2) 1 0 (wants.Read (first_read 1 0)))) ∷ marked 0 (Got 0) ∷
    marked 0 (Sent 1 1 (messages.Answer 0 (answers.Granted (whole_grant 1 0 [])))) ∷ marked 0 (Got 0) ∷
    marked 0 (Sent 2 1 (messages.Answer 0 (answers.Granted (whole_grant 1 0 [])))) ∷ marked 1 (Got 1) ∷
    marked 1 (Sent 3 0 (messages.Request (tx 0 2) 1 1 (wants.Append 1 [] (own_line 1 1 0 ∷ [])))) ∷ marked 1 (Got 1) ∷
    marked 0 (Got 3) ∷ marked 0 (Sent 4 1 (messages.Answer 3 (answers.Granted (whole_grant 1 0 [])))) ∷ marked 1 (Got 2)
    ∷
    marked 1 (Got 4) ∷ marked 1 (Told (replies.Response 0)) ∷ marked 1 (Called commands.Commit) ∷
    marked 1 (Sent 5 0 (messages.Request (tx 0 2) 1 1 wants.Prepare)) ∷ marked 0 (Got 5) ∷
    marked 0 (Wrote (prepare (tx 0 2) 1 (read_lock 1 0 ∷ []) (own_line 1 1 0 ∷ []) [])) ∷
    marked 0 (Sent 6 1 (messages.Answer 5 (answers.Yes 0))) ∷ marked 1 (Got 6) ∷
    marked 1 (Wrote (commit (stamp 1 0) (tx 0 2) (operation 1 0 (Some 0) ∷ []))) ∷
    marked 1 (Sent 7 0 (messages.Decision (tx 0 2) (outcomes.Committed (stamp 1 0)))) ∷
    marked 1 (Told (replies.Committed (stamp 1 0))) ∷ marked 0 (Got 7) ∷ marked 0 (Wrote (records.Done (tx 0 2) 1)) ∷
    marked 1 (Called commands.Begin) ∷ marked 1 (Told (replies.Began (tx 0 3))) ∷ marked 1 (Called commands.Commit) ∷
    marked 1 (Wrote (commit (stamp 2 0) (tx 0 3) [])) ∷ marked 1 (Told (replies.Committed (stamp 2 0))) ∷
    marked 3 (Phase 3) ∷ marked 1 (Called commands.Begin) ∷ marked 1 (Told (replies.Began (tx 0 4))) ∷
    marked 1 (Called (commands.Do 0 1)) ∷
    marked 1 (Sent 8 0 (messages.Request (tx 0 4) 1 0 (wants.Read (first_read 0 1))))
    ∷
    marked 0 (Got 8) ∷ marked 0 (Sent 9 1 (messages.Answer 8 (answers.Granted (whole_grant 1 1 [])))) ∷ marked 1 (Got 9)
    ∷
    marked 1 (Told replies.Absent) ∷ marked 1 (Called commands.Commit) ∷
    marked 1 (Sent 10 0 (messages.Request (tx 0 4) 1 1 wants.Prepare)) ∷ marked 0 (Got 10) ∷
    marked 0 (Wrote (prepare (tx 0 4) 1 (read_lock 0 1 ∷ []) [] [])) ∷
    marked 0 (Sent 11 1 (messages.Answer 10 (answers.Yes 1))) ∷ marked 1 (Got 11) ∷
    marked 1 (Wrote (commit (stamp 3 0) (tx 0 4) (operation 0 1 None ∷ []))) ∷
    marked 1 (Sent 12 0 (messages.Decision (tx 0 4) (outcomes.Committed (stamp 3 0)))) ∷
    marked 1 (Told (replies.Committed (stamp 3 0))) ∷ marked 0 (Got 12) ∷ marked 0 (Wrote (records.Done (tx 0 4) 3)) ∷
    marked 1 (Called commands.Begin) ∷ marked 1 (Told (replies.Began (tx 0 5))) ∷ marked 1 (Called (commands.Do 1 1)) ∷
    marked 1 (Sent 13 0 (messages.Request (tx 0 5) 1 0 (wants.Read (first_read 1 1)))) ∷ marked 0 (Got 13) ∷
    marked 0 (Sent 14 1 (messages.Answer 13 (answers.Granted (whole_grant 1 3 (line 1 0 2 1 1 0 ∷ [])))))
    ∷ marked 1 (Got 14) ∷
    marked 1 (Told (replies.Response 1)) ∷ marked 3 (Phase 4) ∷ marked 3 (Cut 0 1) ∷ marked 1 (Got 11) ∷
    marked 1 (Called commands.Commit) ∷ marked 1 (Sent 15 0 (messages.Request (tx 0 5) 1 1 wants.Prepare)) ∷
    marked 1 (Lost 15) ∷ marked 1 (Sent 16 0 (messages.Decision (tx 0 5) outcomes.Aborted)) ∷
    marked 1 (Told (replies.Aborted (causes.NoAnswer 0))) ∷ marked 3 (Phase 5) ∷ marked 1 (Called commands.Begin) ∷
    marked 1 (Told (replies.Began (tx 0 6))) ∷ marked 1 (Called (commands.Do 0 1)) ∷
    marked 1 (Sent 17 0 (messages.Request (tx 0 6) 1 0 (wants.Read (first_read 0 1)))) ∷ marked 1 (Lost 17) ∷
    marked 1 (Told (replies.Quorum halves.Read 0 2)) ∷ marked 1 (Called commands.Commit) ∷
    marked 1 (Wrote (commit (stamp 4 0) (tx 0 6) [])) ∷
    marked 1 (Sent 18 0 (messages.Decision (tx 0 6) (outcomes.Committed (stamp 4 0)))) ∷
    marked 1 (Told (replies.Committed (stamp 4 0))) ∷ marked 1 (Called commands.Begin) ∷
    marked 1 (Told (replies.Began (tx 0 7))) ∷ marked 3 (Phase 6) ∷ marked 1 (Called commands.Commit) ∷
    marked 1 (Wrote (commit (stamp 5 0) (tx 0 7) [])) ∷ marked 1 (Told (replies.Committed (stamp 5 0))) ∷
    marked 1 (Called commands.Begin) ∷ marked 1 (Told (replies.Began (tx 0 8))) ∷ marked 1 (Called (commands.Do 1 1)) ∷
    marked 1 (Sent 19 0 (messages.Request (tx 0 8) 1 0 (wants.Read (first_read 1 1)))) ∷ marked 1 (Lost 19) ∷
    marked 1 (Told (replies.Quorum halves.Read 0 3)) ∷ marked 1 (Called commands.Commit) ∷
    marked 1 (Wrote (commit (stamp 6 0) (tx 0 8) [])) ∷
    marked 1 (Sent 20 0 (messages.Decision (tx 0 8) (outcomes.Committed (stamp 6 0)))) ∷
    marked 1 (Told (replies.Committed (stamp 6 0))) ∷ marked 3 (Phase 7) ∷ marked 3 (Heal 0 1) ∷
    marked 1 (Called commands.Begin) ∷ marked 1 (Told (replies.Began (tx 0 9))) ∷ marked 1 (Called (commands.Do 1 1)) ∷
    marked 1 (Sent 21 0 (messages.Request (tx 0 9) 1 0 (wants.Read (first_read 1 1)))) ∷ marked 0 (Got 21) ∷
    marked 0 (Sent 22 1 (messages.Answer 21 (answers.Granted (whole_grant 1 3 (line 1 0 2 1 1 0 ∷ [])))))
    ∷ marked 1 (Got 22) ∷
    marked 1 (Told (replies.Response 1)) ∷ marked 1 (Called (commands.Do 1 0)) ∷
    marked 1 (Sent 23 0 (messages.Request (tx 0 9) 1 1 (wants.Read (first_read 1 0)))) ∷ marked 0 (Got 23) ∷
    marked 0 (Sent 24 1 (messages.Answer 23 (answers.Granted (whole_grant 1 3 (line 1 0 2 1 1 0 ∷ [])))))
    ∷ marked 1 (Got 24) ∷
    marked 1 (Sent 25 0 (messages.Request (tx 0 9) 1 1 (wants.Append 1 (line 1 0 2 1 1 0 ∷ []) (own_line 2 1 0 ∷ []))))
    ∷
    marked 0 (Got 25) ∷ marked 0 (Sent 26 1 (messages.Answer 25 (answers.Clash (tx 0 5) 1 0))) ∷
    marked 0 (Sent 27 1 (messages.Inquiry (tx 0 5))) ∷ marked 1 (Got 26) ∷
    marked 1 (Told (replies.Conflict (tx 0 5) 0)) ∷ marked 1 (Got 27) ∷
    marked 1 (Sent 28 0 (messages.Decision (tx 0 5) outcomes.Aborted)) ∷ marked 1 (Called commands.Begin) ∷
    marked 1 (Told (replies.Already (tx 0 9))) ∷ marked 0 (Got 28) ∷ []
