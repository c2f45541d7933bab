-- Wrong histories: commits without their record.
use Rattle.std.specs.Prelude.{List, [], ◌∷◌, Some}
use Rattle.qc_msg.specs.Vocabulary.{Entry, marked}
use Rattle.tests_histories.specs.Words.{tx, stamp, line, own_line, operation, read_lock, prepare, commit}
use Rattle.qc_msg.specs.declared.step.Step.TheVariants.{Phase, Called, Got, Wrote, Sent, Told, Fell}
use Rattle.qc_msg.specs.declared.message.Answer.TheVariants as answers
use Rattle.qc_msg.specs.declared.reply.AbortCause.TheVariants as causes
use Rattle.qc_msg.specs.declared.step.Command.TheVariants as commands
use Rattle.qc_msg.specs.declared.message.Message.TheVariants as messages
use Rattle.qc_msg.specs.declared.message.Outcome.TheVariants as outcomes
use Rattle.qc_msg.specs.declared.record.Record.TheVariants as records
use Rattle.qc_msg.specs.declared.reply.Reply.TheVariants as replies
use Rattle.qc_msg.specs.declared.message.Want.TheVariants as wants
use Rattle.qc_msg.specs.declared.step.Fall.TheVariants as falls
use Rattle.qc_msg.specs.Vocabulary.{whole_grant, first_read}

-- The record is written before the votes are asked for.
abbrev pub record_before_the_votes : List Entry
record_before_the_votes =
    marked 7 (Phase 1) ∷ marked 3 (Called commands.Begin) ∷ marked 3 (Told (replies.Began (tx 0 1))) ∷
    marked 3 (Called (commands.Do 0 2)) ∷
    marked 3 (Sent 0 0 (messages.Request (tx 0 1) 1 0 (wants.Append 0 [] (own_line 1 0 3 ∷ [])))) ∷
    marked 3 (Sent 1 1 (messages.Request (tx 0 1) 1 0 (wants.Append 0 [] (own_line 1 0 3 ∷ [])))) ∷ marked 0 (Got 0) ∷
    marked 0 (Sent 2 3 (messages.Answer 0 (answers.Granted (whole_grant 1 0 [])))) ∷ marked 1 (Got 1) ∷
    marked 1 (Sent 3 3 (messages.Answer 1 (answers.Granted (whole_grant 1 0 [])))) ∷ marked 3 (Got 2) ∷ marked 3 (Got 3)
    ∷
    marked 3 (Told (replies.Response 2)) ∷ marked 3 (Called commands.Commit) ∷
    marked 3 (Wrote (commit (stamp 1 0) (tx 0 1) (operation 0 2 (Some 2) ∷ []))) ∷ []

-- Committed is told without a record.
abbrev pub record_missing : List Entry
record_missing =
    marked 7 (Phase 1) ∷ marked 3 (Called commands.Begin) ∷ marked 3 (Told (replies.Began (tx 0 1))) ∷
    marked 3 (Called (commands.Do 0 2)) ∷
    marked 3 (Sent 0 0 (messages.Request (tx 0 1) 1 0 (wants.Append 0 [] (own_line 1 0 3 ∷ [])))) ∷
    marked 3 (Sent 1 1 (messages.Request (tx 0 1) 1 0 (wants.Append 0 [] (own_line 1 0 3 ∷ [])))) ∷ marked 0 (Got 0) ∷
    marked 0 (Sent 2 3 (messages.Answer 0 (answers.Granted (whole_grant 1 0 [])))) ∷ marked 1 (Got 1) ∷
    marked 1 (Sent 3 3 (messages.Answer 1 (answers.Granted (whole_grant 1 0 [])))) ∷ marked 3 (Got 2) ∷ marked 3 (Got 3)
    ∷
    marked 3 (Told (replies.Response 2)) ∷ marked 3 (Called commands.Commit) ∷
    marked 3 (Sent 4 0 (messages.Request (tx 0 1) 1 1 wants.Prepare)) ∷
    marked 3 (Sent 5 1 (messages.Request (tx 0 1) 1 1 wants.Prepare)) ∷ marked 0 (Got 4) ∷
    marked 0 (Wrote (prepare (tx 0 1) 1 [] (own_line 1 0 3 ∷ []) [])) ∷
    marked 0 (Sent 6 3 (messages.Answer 4 (answers.Yes 0))) ∷ marked 1 (Got 5) ∷
    marked 1 (Wrote (prepare (tx 0 1) 1 [] (own_line 1 0 3 ∷ []) [])) ∷
    marked 1 (Sent 7 3 (messages.Answer 5 (answers.Yes 0))) ∷ marked 3 (Got 6) ∷ marked 3 (Got 7) ∷
    marked 3 (Sent 8 0 (messages.Decision (tx 0 1) (outcomes.Committed (stamp 1 0)))) ∷
    marked 3 (Sent 9 1 (messages.Decision (tx 0 1) (outcomes.Committed (stamp 1 0)))) ∷
    marked 3 (Told (replies.Committed (stamp 1 0))) ∷ []

-- The record lacks the operation.
abbrev pub operation_left_out : List Entry
operation_left_out =
    marked 7 (Phase 1) ∷ marked 3 (Called commands.Begin) ∷ marked 3 (Told (replies.Began (tx 0 1))) ∷
    marked 3 (Called (commands.Do 0 2)) ∷
    marked 3 (Sent 0 0 (messages.Request (tx 0 1) 1 0 (wants.Append 0 [] (own_line 1 0 3 ∷ [])))) ∷
    marked 3 (Sent 1 1 (messages.Request (tx 0 1) 1 0 (wants.Append 0 [] (own_line 1 0 3 ∷ [])))) ∷ marked 0 (Got 0) ∷
    marked 0 (Sent 2 3 (messages.Answer 0 (answers.Granted (whole_grant 1 0 [])))) ∷ marked 1 (Got 1) ∷
    marked 1 (Sent 3 3 (messages.Answer 1 (answers.Granted (whole_grant 1 0 [])))) ∷ marked 3 (Got 2) ∷ marked 3 (Got 3)
    ∷
    marked 3 (Told (replies.Response 2)) ∷ marked 3 (Called commands.Commit) ∷
    marked 3 (Sent 4 0 (messages.Request (tx 0 1) 1 1 wants.Prepare)) ∷
    marked 3 (Sent 5 1 (messages.Request (tx 0 1) 1 1 wants.Prepare)) ∷ marked 0 (Got 4) ∷
    marked 0 (Wrote (prepare (tx 0 1) 1 [] (own_line 1 0 3 ∷ []) [])) ∷
    marked 0 (Sent 6 3 (messages.Answer 4 (answers.Yes 0))) ∷ marked 1 (Got 5) ∷
    marked 1 (Wrote (prepare (tx 0 1) 1 [] (own_line 1 0 3 ∷ []) [])) ∷
    marked 1 (Sent 7 3 (messages.Answer 5 (answers.Yes 0))) ∷ marked 3 (Got 6) ∷ marked 3 (Got 7) ∷
    marked 3 (Wrote (commit (stamp 1 0) (tx 0 1) [])) ∷ []

-- The record is written twice.
abbrev pub recorded_twice : List Entry
recorded_twice =
    marked 7 (Phase 1) ∷ marked 3 (Called commands.Begin) ∷ marked 3 (Told (replies.Began (tx 0 1))) ∷
    marked 3 (Called (commands.Do 0 2)) ∷
    marked 3 (Sent 0 0 (messages.Request (tx 0 1) 1 0 (wants.Append 0 [] (own_line 1 0 3 ∷ [])))) ∷
    marked 3 (Sent 1 1 (messages.Request (tx 0 1) 1 0 (wants.Append 0 [] (own_line 1 0 3 ∷ [])))) ∷ marked 0 (Got 0) ∷
    marked 0 (Sent 2 3 (messages.Answer 0 (answers.Granted (whole_grant 1 0 [])))) ∷ marked 1 (Got 1) ∷
    marked 1 (Sent 3 3 (messages.Answer 1 (answers.Granted (whole_grant 1 0 [])))) ∷ marked 3 (Got 2) ∷ marked 3 (Got 3)
    ∷
    marked 3 (Told (replies.Response 2)) ∷ marked 3 (Called commands.Commit) ∷
    marked 3 (Sent 4 0 (messages.Request (tx 0 1) 1 1 wants.Prepare)) ∷
    marked 3 (Sent 5 1 (messages.Request (tx 0 1) 1 1 wants.Prepare)) ∷ marked 0 (Got 4) ∷
    marked 0 (Wrote (prepare (tx 0 1) 1 [] (own_line 1 0 3 ∷ []) [])) ∷
    marked 0 (Sent 6 3 (messages.Answer 4 (answers.Yes 0))) ∷ marked 1 (Got 5) ∷
    marked 1 (Wrote (prepare (tx 0 1) 1 [] (own_line 1 0 3 ∷ []) [])) ∷
    marked 1 (Sent 7 3 (messages.Answer 5 (answers.Yes 0))) ∷ marked 3 (Got 6) ∷ marked 3 (Got 7) ∷
    marked 3 (Wrote (commit (stamp 1 0) (tx 0 1) (operation 0 2 (Some 2) ∷ []))) ∷
    marked 3 (Wrote (commit (stamp 1 0) (tx 0 1) (operation 0 2 (Some 2) ∷ []))) ∷ []

-- The stamp isn't above a clock that counted.
abbrev pub low_stamp : List Entry
low_stamp =
    marked 7 (Phase 1) ∷ marked 3 (Called commands.Begin) ∷ marked 3 (Told (replies.Began (tx 0 1))) ∷
    marked 3 (Called (commands.Do 0 2)) ∷
    marked 3 (Sent 0 0 (messages.Request (tx 0 1) 1 0 (wants.Append 0 [] (own_line 1 0 3 ∷ [])))) ∷
    marked 3 (Sent 1 1 (messages.Request (tx 0 1) 1 0 (wants.Append 0 [] (own_line 1 0 3 ∷ [])))) ∷ marked 0 (Got 0) ∷
    marked 0 (Sent 2 3 (messages.Answer 0 (answers.Granted (whole_grant 1 0 [])))) ∷ marked 1 (Got 1) ∷
    marked 1 (Sent 3 3 (messages.Answer 1 (answers.Granted (whole_grant 1 0 [])))) ∷ marked 3 (Got 2) ∷ marked 3 (Got 3)
    ∷
    marked 3 (Told (replies.Response 2)) ∷ marked 3 (Called commands.Commit) ∷
    marked 3 (Sent 4 0 (messages.Request (tx 0 1) 1 1 wants.Prepare)) ∷
    marked 3 (Sent 5 1 (messages.Request (tx 0 1) 1 1 wants.Prepare)) ∷ marked 0 (Got 4) ∷
    marked 0 (Wrote (prepare (tx 0 1) 1 [] (own_line 1 0 3 ∷ []) [])) ∷
    marked 0 (Sent 6 3 (messages.Answer 4 (answers.Yes 0))) ∷ marked 1 (Got 5) ∷
    marked 1 (Wrote (prepare (tx 0 1) 1 [] (own_line 1 0 3 ∷ []) [])) ∷
    marked 1 (Sent 7 3 (messages.Answer 5 (answers.Yes 0))) ∷ marked 3 (Got 6) ∷ marked 3 (Got 7) ∷
    marked 3 (Wrote (commit (stamp 1 0) (tx 0 1) (operation 0 2 (Some 2) ∷ []))) ∷
    marked 3 (Sent 8 0 (messages.Decision (tx 0 1) (outcomes.Committed (stamp 1 0)))) ∷
    marked 3 (Sent 9 1 (messages.Decision (tx 0 1) (outcomes.Committed (stamp 1 0)))) ∷
    marked 3 (Told (replies.Committed (stamp 1 0))) ∷ marked 0 (Got 8) ∷ marked 0 (Wrote (records.Done (tx 0 1) 1)) ∷
    marked 1 (Got 9) ∷ marked 1 (Wrote (records.Done (tx 0 1) 1)) ∷ marked 7 (Phase 2) ∷
    marked 4 (Called commands.Begin) ∷ marked 4 (Told (replies.Began (tx 1 1))) ∷ marked 4 (Called (commands.Do 0 0)) ∷
    marked 4 (Sent 10 1 (messages.Request (tx 1 1) 1 0 (wants.Read (first_read 0 0)))) ∷
    marked 4 (Sent 11 2 (messages.Request (tx 1 1) 1 0 (wants.Read (first_read 0 0)))) ∷ marked 1 (Got 10) ∷
    marked 1 (Sent 12 4 (messages.Answer 10 (answers.Granted (whole_grant 1 1 (line 1 0 1 1 0 3 ∷ [])))))
    ∷ marked 2 (Got 11) ∷
    marked 2 (Sent 13 4 (messages.Answer 11 (answers.Granted (whole_grant 1 0 [])))) ∷ marked 4 (Got 12)
    ∷ marked 4 (Got 13) ∷
    marked 4 (Told (replies.Response 1)) ∷ marked 4 (Called (commands.Do 0 1)) ∷
    marked 4 (Sent 14 1 (messages.Request (tx 1 1) 1 1 (wants.Append 0 (line 1 0 1 1 0 3 ∷ []) (own_line 2 0 2 ∷ []))))
    ∷
    marked 4 (Sent 15 2 (messages.Request (tx 1 1) 1 1 (wants.Append 0 (line 1 0 1 1 0 3 ∷ []) (own_line 2 0 2 ∷ []))))
    ∷
    marked 1 (Got 14) ∷ marked 1 (Sent 16 4 (messages.Answer 14 (answers.Granted (whole_grant 1 1 []))))
    ∷ marked 2 (Got 15) ∷
    marked 2 (Sent 17 4 (messages.Answer 15 (answers.Granted (whole_grant 1 1 [])))) ∷ marked 4 (Got 16)
    ∷ marked 4 (Got 17) ∷
    marked 4 (Told (replies.Response 2)) ∷ marked 4 (Called commands.Commit) ∷
    marked 4 (Sent 18 1 (messages.Request (tx 1 1) 1 1 wants.Prepare)) ∷
    marked 4 (Sent 19 2 (messages.Request (tx 1 1) 1 1 wants.Prepare)) ∷ marked 1 (Got 18) ∷
    marked 1 (Wrote (prepare (tx 1 1) 1 (read_lock 0 0 ∷ []) (own_line 2 0 2 ∷ []) [])) ∷
    marked 1 (Sent 20 4 (messages.Answer 18 (answers.Yes 1))) ∷ marked 2 (Got 19) ∷
    marked 2 (Wrote (prepare (tx 1 1) 1 (read_lock 0 0 ∷ []) (own_line 2 0 2 ∷ []) (line 1 0 1 1 0 3 ∷ []))) ∷
    marked 2 (Sent 21 4 (messages.Answer 19 (answers.Yes 1))) ∷ marked 4 (Got 20) ∷ marked 4 (Got 21) ∷
    marked 4 (Wrote (commit (stamp 1 1) (tx 1 1) (operation 0 0 (Some 1) ∷ operation 0 1 (Some 2) ∷ []))) ∷ []

-- Aborted is told though the record stands.
abbrev pub aborted_though_recorded : List Entry
aborted_though_recorded =
    marked 7 (Phase 1) ∷ marked 3 (Called commands.Begin) ∷ marked 3 (Told (replies.Began (tx 0 1))) ∷
    marked 3 (Called (commands.Do 0 2)) ∷
    marked 3 (Sent 0 0 (messages.Request (tx 0 1) 1 0 (wants.Append 0 [] (own_line 1 0 3 ∷ [])))) ∷
    marked 3 (Sent 1 1 (messages.Request (tx 0 1) 1 0 (wants.Append 0 [] (own_line 1 0 3 ∷ [])))) ∷ marked 0 (Got 0) ∷
    marked 0 (Sent 2 3 (messages.Answer 0 (answers.Granted (whole_grant 1 0 [])))) ∷ marked 1 (Got 1) ∷
    marked 1 (Sent 3 3 (messages.Answer 1 (answers.Granted (whole_grant 1 0 [])))) ∷ marked 3 (Got 2) ∷ marked 3 (Got 3)
    ∷
    marked 3 (Told (replies.Response 2)) ∷ marked 3 (Called commands.Commit) ∷
    marked 3 (Sent 4 0 (messages.Request (tx 0 1) 1 1 wants.Prepare)) ∷
    marked 3 (Sent 5 1 (messages.Request (tx 0 1) 1 1 wants.Prepare)) ∷ marked 0 (Got 4) ∷
    marked 0 (Wrote (prepare (tx 0 1) 1 [] (own_line 1 0 3 ∷ []) [])) ∷
    marked 0 (Sent 6 3 (messages.Answer 4 (answers.Yes 0))) ∷ marked 1 (Got 5) ∷
    marked 1 (Wrote (prepare (tx 0 1) 1 [] (own_line 1 0 3 ∷ []) [])) ∷
    marked 1 (Sent 7 3 (messages.Answer 5 (answers.Yes 0))) ∷ marked 3 (Got 6) ∷ marked 3 (Got 7) ∷
    marked 3 (Wrote (commit (stamp 1 0) (tx 0 1) (operation 0 2 (Some 2) ∷ []))) ∷
    marked 3 (Sent 8 0 (messages.Decision (tx 0 1) (outcomes.Committed (stamp 1 0)))) ∷
    marked 3 (Sent 9 1 (messages.Decision (tx 0 1) (outcomes.Committed (stamp 1 0)))) ∷
    marked 3 (Told (replies.Aborted (causes.NoAnswer 0))) ∷ []

-- Unknown is told though the client didn't fall.
abbrev pub unknown_without_a_fall : List Entry
unknown_without_a_fall =
    marked 7 (Phase 1) ∷ marked 3 (Called commands.Begin) ∷ marked 3 (Told (replies.Began (tx 0 1))) ∷
    marked 3 (Called (commands.Do 0 2)) ∷
    marked 3 (Sent 0 0 (messages.Request (tx 0 1) 1 0 (wants.Append 0 [] (own_line 1 0 3 ∷ [])))) ∷
    marked 3 (Sent 1 1 (messages.Request (tx 0 1) 1 0 (wants.Append 0 [] (own_line 1 0 3 ∷ [])))) ∷ marked 0 (Got 0) ∷
    marked 0 (Sent 2 3 (messages.Answer 0 (answers.Granted (whole_grant 1 0 [])))) ∷ marked 1 (Got 1) ∷
    marked 1 (Sent 3 3 (messages.Answer 1 (answers.Granted (whole_grant 1 0 [])))) ∷ marked 3 (Got 2) ∷ marked 3 (Got 3)
    ∷
    marked 3 (Told (replies.Response 2)) ∷ marked 3 (Called commands.Commit) ∷
    marked 3 (Sent 4 0 (messages.Request (tx 0 1) 1 1 wants.Prepare)) ∷
    marked 3 (Sent 5 1 (messages.Request (tx 0 1) 1 1 wants.Prepare)) ∷ marked 0 (Got 4) ∷
    marked 0 (Wrote (prepare (tx 0 1) 1 [] (own_line 1 0 3 ∷ []) [])) ∷
    marked 0 (Sent 6 3 (messages.Answer 4 (answers.Yes 0))) ∷ marked 1 (Got 5) ∷
    marked 1 (Wrote (prepare (tx 0 1) 1 [] (own_line 1 0 3 ∷ []) [])) ∷
    marked 1 (Sent 7 3 (messages.Answer 5 (answers.Yes 0))) ∷ marked 3 (Got 6) ∷ marked 3 (Got 7) ∷
    marked 3 (Told replies.Unknown) ∷ []

-- Committed is told though the client falls as it writes its record.
abbrev pub committed_though_it_fell : List Entry
committed_though_it_fell =
    marked 7 (Phase 1) ∷ marked 3 (Called commands.Begin) ∷ marked 3 (Told (replies.Began (tx 0 1))) ∷
    marked 3 (Called (commands.Do 0 2)) ∷
    marked 3 (Sent 0 0 (messages.Request (tx 0 1) 1 0 (wants.Append 0 [] (own_line 1 0 3 ∷ [])))) ∷
    marked 3 (Sent 1 1 (messages.Request (tx 0 1) 1 0 (wants.Append 0 [] (own_line 1 0 3 ∷ [])))) ∷ marked 0 (Got 0) ∷
    marked 0 (Sent 2 3 (messages.Answer 0 (answers.Granted (whole_grant 1 0 [])))) ∷ marked 1 (Got 1) ∷
    marked 1 (Sent 3 3 (messages.Answer 1 (answers.Granted (whole_grant 1 0 [])))) ∷ marked 3 (Got 2) ∷ marked 3 (Got 3)
    ∷
    marked 3 (Told (replies.Response 2)) ∷ marked 3 (Called commands.Commit) ∷
    marked 3 (Sent 4 0 (messages.Request (tx 0 1) 1 1 wants.Prepare)) ∷
    marked 3 (Sent 5 1 (messages.Request (tx 0 1) 1 1 wants.Prepare)) ∷ marked 0 (Got 4) ∷
    marked 0 (Wrote (prepare (tx 0 1) 1 [] (own_line 1 0 3 ∷ []) [])) ∷
    marked 0 (Sent 6 3 (messages.Answer 4 (answers.Yes 0))) ∷ marked 1 (Got 5) ∷
    marked 1 (Wrote (prepare (tx 0 1) 1 [] (own_line 1 0 3 ∷ []) [])) ∷
    marked 1 (Sent 7 3 (messages.Answer 5 (answers.Yes 0))) ∷ marked 3 (Got 6) ∷ marked 3 (Got 7) ∷
    marked 3 (Told (replies.Committed (stamp 1 0))) ∷
    marked 3 (Fell falls.Disk (Some (commit (stamp 1 0) (tx 0 1) (operation 0 2 (Some 2) ∷ [])))) ∷ []
