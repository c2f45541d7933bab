-- Of several promised transactions the last is in doubt, at the second site.
use Rattle.std.specs.Prelude.{List, [], ◌∷◌, Some}
use Rattle.qc_msg.specs.Vocabulary.{Entry, marked}
use Rattle.tests_histories.specs.Words.{tx, stamp, line, own_line, operation, read_lock, prepare, commit}
use Rattle.qc_msg.specs.declared.step.Step.TheVariants.{Phase, Called, Got, Lost, Wrote, Sent, Told}
use Rattle.tests_epochs.specs.Words.{prepared}
use Rattle.qc_msg.specs.declared.message.Answer.TheVariants as answers
use Rattle.qc_msg.specs.declared.step.Command.TheVariants as commands
use Rattle.qc_msg.specs.declared.message.Message.TheVariants as messages
use Rattle.qc_msg.specs.declared.message.Outcome.TheVariants as outcomes
use Rattle.qc_msg.specs.declared.record.Record.TheVariants as records
use Rattle.qc_msg.specs.declared.reply.Reply.TheVariants as replies
use Rattle.qc_msg.specs.declared.message.Want.TheVariants as wants
use Rattle.qc_msg.specs.Vocabulary.{whole_grant, first_read, snapshot_with, start_with}

abbrev pub history : List Entry
history =
    marked 7 (Phase 1) ∷ marked 5 (Called commands.Begin) ∷ marked 5 (Told (replies.Began (tx 2 1))) ∷
    marked 5 (Called (commands.Do 0 2)) ∷
    marked 5 (Sent 0 2 (messages.Request (tx 2 1) 1 0 (wants.Append 0 [] (own_line 1 0 3 ∷ [])))) ∷
    marked 5 (Sent 1 0 (messages.Request (tx 2 1) 1 0 (wants.Append 0 [] (own_line 1 0 3 ∷ [])))) ∷ marked 2 (Got 0) ∷
    marked 2 (Sent 2 5 (messages.Answer 0 (answers.Granted (whole_grant 1 0 [])))) ∷ marked 0 (Got 1) ∷
    marked 0 (Sent 3 5 (messages.Answer 1 (answers.Granted (whole_grant 1 0 [])))) ∷ marked 5 (Got 2) ∷ marked 5 (Got 3)
    ∷
    marked 5 (Told (replies.Response 2)) ∷ marked 5 (Called commands.Commit) ∷
    marked 5 (Sent 4 2 (messages.Request (tx 2 1) 1 1 wants.Prepare)) ∷
    marked 5 (Sent 5 0 (messages.Request (tx 2 1) 1 1 wants.Prepare)) ∷ marked 2 (Got 4) ∷
    marked 2 (Wrote (prepare (tx 2 1) 1 [] (own_line 1 0 3 ∷ []) [])) ∷
    marked 2 (Sent 6 5 (messages.Answer 4 (answers.Yes 0))) ∷ marked 0 (Got 5) ∷
    marked 0 (Wrote (prepare (tx 2 1) 1 [] (own_line 1 0 3 ∷ []) [])) ∷
    marked 0 (Sent 7 5 (messages.Answer 5 (answers.Yes 0))) ∷ marked 5 (Got 6) ∷ marked 5 (Got 7) ∷
    marked 5 (Wrote (commit (stamp 1 2) (tx 2 1) (operation 0 2 (Some 2) ∷ []))) ∷
    marked 5 (Sent 8 0 (messages.Decision (tx 2 1) (outcomes.Committed (stamp 1 2)))) ∷
    marked 5 (Sent 9 2 (messages.Decision (tx 2 1) (outcomes.Committed (stamp 1 2)))) ∷
    marked 5 (Told (replies.Committed (stamp 1 2))) ∷ marked 7 (Phase 2) ∷ marked 4 (Called commands.Begin) ∷
    marked 4 (Told (replies.Began (tx 1 1))) ∷ marked 4 (Called (commands.Do 0 1)) ∷
    marked 4 (Sent 10 1 (messages.Request (tx 1 1) 1 0 (wants.Append 0 [] (own_line 1 0 2 ∷ [])))) ∷
    marked 4 (Sent 11 2 (messages.Request (tx 1 1) 1 0 (wants.Append 0 [] (own_line 1 0 2 ∷ [])))) ∷ marked 1 (Got 10) ∷
    marked 1 (Sent 12 4 (messages.Answer 10 (answers.Granted (whole_grant 1 0 [])))) ∷ marked 2 (Got 11) ∷
    marked 2 (Sent 13 4 (messages.Answer 11 (answers.Granted (whole_grant 1 0 [])))) ∷ marked 4 (Got 12)
    ∷ marked 4 (Got 13) ∷
    marked 4 (Told (replies.Response 2)) ∷ marked 4 (Called commands.Commit) ∷
    marked 4 (Sent 14 1 (messages.Request (tx 1 1) 1 1 wants.Prepare)) ∷
    marked 4 (Sent 15 2 (messages.Request (tx 1 1) 1 1 wants.Prepare)) ∷ marked 1 (Got 14) ∷
    marked 1 (Wrote (prepare (tx 1 1) 1 [] (own_line 1 0 2 ∷ []) [])) ∷
    marked 1 (Sent 16 4 (messages.Answer 14 (answers.Yes 0))) ∷ marked 2 (Got 15) ∷
    marked 2 (Wrote (prepare (tx 1 1) 1 [] (own_line 1 0 2 ∷ []) [])) ∷
    marked 2 (Sent 17 4 (messages.Answer 15 (answers.Yes 0))) ∷ marked 4 (Got 16) ∷ marked 4 (Got 17) ∷
    marked 4 (Wrote (commit (stamp 1 1) (tx 1 1) (operation 0 1 (Some 2) ∷ []))) ∷
    marked 4 (Sent 18 1 (messages.Decision (tx 1 1) (outcomes.Committed (stamp 1 1)))) ∷
    marked 4 (Sent 19 2 (messages.Decision (tx 1 1) (outcomes.Committed (stamp 1 1)))) ∷
    marked 4 (Told (replies.Committed (stamp 1 1))) ∷ marked 7 (Phase 3) ∷ marked 3 (Called commands.Begin) ∷
    marked 3 (Told (replies.Began (tx 0 1))) ∷ marked 3 (Called (commands.Do 0 2)) ∷
    marked 3 (Sent 20 0 (messages.Request (tx 0 1) 1 0 (wants.Append 0 [] (own_line 1 0 3 ∷ [])))) ∷
    marked 3 (Sent 21 1 (messages.Request (tx 0 1) 1 0 (wants.Append 0 [] (own_line 1 0 3 ∷ [])))) ∷ marked 0 (Got 20) ∷
    marked 0 (Sent 22 3 (messages.Answer 20 (answers.Granted (whole_grant 1 0 [])))) ∷ marked 1 (Got 21) ∷
    marked 1 (Sent 23 3 (messages.Answer 21 (answers.Granted (whole_grant 1 0 [])))) ∷ marked 3 (Got 22)
    ∷ marked 3 (Got 23) ∷
    marked 3 (Told (replies.Response 2)) ∷ marked 3 (Called commands.Commit) ∷
    marked 3 (Sent 24 0 (messages.Request (tx 0 1) 1 1 wants.Prepare)) ∷
    marked 3 (Sent 25 1 (messages.Request (tx 0 1) 1 1 wants.Prepare)) ∷ marked 0 (Got 24) ∷
    marked 0 (Wrote (prepare (tx 0 1) 1 [] (own_line 1 0 3 ∷ []) [])) ∷
    marked 0 (Sent 26 3 (messages.Answer 24 (answers.Yes 0))) ∷ marked 1 (Got 25) ∷
    marked 1 (Wrote (prepare (tx 0 1) 1 [] (own_line 1 0 3 ∷ []) [])) ∷
    marked 1 (Sent 27 3 (messages.Answer 25 (answers.Yes 0))) ∷ marked 3 (Got 26) ∷ marked 3 (Got 27) ∷
    marked 3 (Wrote (commit (stamp 1 0) (tx 0 1) (operation 0 2 (Some 2) ∷ []))) ∷
    marked 3 (Sent 28 0 (messages.Decision (tx 0 1) (outcomes.Committed (stamp 1 0)))) ∷
    marked 3 (Sent 29 1 (messages.Decision (tx 0 1) (outcomes.Committed (stamp 1 0)))) ∷
    marked 3 (Told (replies.Committed (stamp 1 0))) ∷ marked 7 (Phase 4) ∷ marked 6 (Called (commands.Epoch 2)) ∷
    marked 6 (Sent 30 0 (messages.Close 2)) ∷ marked 6 (Sent 31 1 (messages.Close 2)) ∷ marked 0 (Got 30) ∷
    marked 0 (Wrote (records.Close 2)) ∷
    marked 0 (Sent 32 6 (messages.Answer 30 (answers.Shut (snapshot_with 0 [] (prepared (tx 0 1) 1 [] (own_line 1 0 3 ∷ []) [] ∷ prepared (tx 2 1) 1 [] (own_line 1 0 3 ∷ []) [] ∷ []))))) ∷
    marked 1 (Got 31) ∷ marked 1 (Wrote (records.Close 2)) ∷
    marked 1 (Sent 33 6 (messages.Answer 31 (answers.Shut (snapshot_with 0 [] (prepared (tx 0 1) 1 [] (own_line 1 0 3 ∷ []) [] ∷ prepared (tx 1 1) 1 [] (own_line 1 0 2 ∷ []) [] ∷ []))))) ∷
    marked 6 (Got 32) ∷ marked 6 (Got 33) ∷ marked 6 (Sent 34 3 (messages.Ask (tx 0 1))) ∷
    marked 6 (Sent 35 5 (messages.Ask (tx 2 1))) ∷ marked 6 (Sent 36 4 (messages.Ask (tx 1 1))) ∷ marked 3 (Got 34) ∷
    marked 3 (Sent 37 6 (messages.Answer 34 (answers.Answered (outcomes.Committed (stamp 1 0))))) ∷ marked 5 (Got 35) ∷
    marked 5 (Sent 38 6 (messages.Answer 35 (answers.Answered (outcomes.Committed (stamp 1 2))))) ∷ marked 6 (Got 37) ∷
    marked 6 (Got 38) ∷ marked 6 (Lost 36) ∷ marked 6 (Told (replies.InDoubt (tx 1 1) 1)) ∷ marked 7 (Phase 5) ∷
    marked 6 (Called (commands.Epoch 2)) ∷ marked 6 (Sent 39 0 (messages.Close 2)) ∷
    marked 6 (Sent 40 1 (messages.Close 2)) ∷ marked 0 (Got 39) ∷
    marked 0 (Sent 41 6 (messages.Answer 39 (answers.Shut (snapshot_with 0 [] (prepared (tx 0 1) 1 [] (own_line 1 0 3 ∷ []) [] ∷ prepared (tx 2 1) 1 [] (own_line 1 0 3 ∷ []) [] ∷ []))))) ∷
    marked 1 (Got 40) ∷
    marked 1 (Sent 42 6 (messages.Answer 40 (answers.Shut (snapshot_with 0 [] (prepared (tx 0 1) 1 [] (own_line 1 0 3 ∷ []) [] ∷ prepared (tx 1 1) 1 [] (own_line 1 0 2 ∷ []) [] ∷ []))))) ∷
    marked 6 (Got 41) ∷ marked 6 (Got 42) ∷ marked 6 (Sent 43 3 (messages.Ask (tx 0 1))) ∷
    marked 6 (Sent 44 5 (messages.Ask (tx 2 1))) ∷ marked 6 (Sent 45 4 (messages.Ask (tx 1 1))) ∷ marked 3 (Got 43) ∷
    marked 3 (Sent 46 6 (messages.Answer 43 (answers.Answered (outcomes.Committed (stamp 1 0))))) ∷ marked 5 (Got 44) ∷
    marked 5 (Sent 47 6 (messages.Answer 44 (answers.Answered (outcomes.Committed (stamp 1 2))))) ∷ marked 4 (Got 45) ∷
    marked 4 (Sent 48 6 (messages.Answer 45 (answers.Answered (outcomes.Committed (stamp 1 1))))) ∷ marked 6 (Got 46) ∷
    marked 6 (Got 47) ∷ marked 6 (Got 48) ∷
    marked 6 (Wrote (records.Decide (start_with 2 1 (line 1 0 1 1 0 3 ∷ line 1 1 1 1 0 2 ∷ line 1 2 1 1 0 3 ∷ [])))) ∷
    marked 6
    (Sent 49 0 (messages.Install (start_with 2 1 (line 1 0 1 1 0 3 ∷ line 1 1 1 1 0 2 ∷ line 1 2 1 1 0 3 ∷ [])))) ∷
    marked 6
    (Sent 50 1 (messages.Install (start_with 2 1 (line 1 0 1 1 0 3 ∷ line 1 1 1 1 0 2 ∷ line 1 2 1 1 0 3 ∷ [])))) ∷
    marked 6
    (Sent 51 2 (messages.Install (start_with 2 1 (line 1 0 1 1 0 3 ∷ line 1 1 1 1 0 2 ∷ line 1 2 1 1 0 3 ∷ [])))) ∷
    marked 0 (Got 49) ∷
    marked 0 (Wrote (records.Install (start_with 2 1 (line 1 0 1 1 0 3 ∷ line 1 1 1 1 0 2 ∷ line 1 2 1 1 0 3 ∷ [])))) ∷
    marked 0 (Sent 52 6 (messages.Answer 49 answers.Installed)) ∷ marked 1 (Got 50) ∷
    marked 1 (Wrote (records.Install (start_with 2 1 (line 1 0 1 1 0 3 ∷ line 1 1 1 1 0 2 ∷ line 1 2 1 1 0 3 ∷ [])))) ∷
    marked 1 (Sent 53 6 (messages.Answer 50 answers.Installed)) ∷ marked 2 (Got 51) ∷
    marked 2 (Wrote (records.Install (start_with 2 1 (line 1 0 1 1 0 3 ∷ line 1 1 1 1 0 2 ∷ line 1 2 1 1 0 3 ∷ [])))) ∷
    marked 2 (Sent 54 6 (messages.Answer 51 answers.Installed)) ∷ marked 6 (Got 52) ∷ marked 6 (Got 53) ∷
    marked 6 (Got 54) ∷ marked 6 (Told (replies.Moved 3 7)) ∷ marked 7 (Phase 6) ∷ marked 4 (Called commands.Begin) ∷
    marked 4 (Told (replies.Began (tx 1 2))) ∷ marked 4 (Called (commands.Do 0 0)) ∷
    marked 4 (Sent 55 1 (messages.Request (tx 1 2) 1 0 (wants.Read (first_read 0 0)))) ∷
    marked 4 (Sent 56 2 (messages.Request (tx 1 2) 1 0 (wants.Read (first_read 0 0)))) ∷ marked 1 (Got 55) ∷
    marked 1 (Sent 57 4 (messages.Answer 55 (answers.Closed 2))) ∷ marked 2 (Got 56) ∷
    marked 2 (Sent 58 4 (messages.Answer 56 (answers.Closed 2))) ∷ marked 4 (Got 57) ∷ marked 4 (Got 58) ∷
    marked 4 (Told (replies.Closed 2 1)) ∷ marked 4 (Called commands.Abort) ∷
    marked 4 (Sent 59 1 (messages.Decision (tx 1 2) outcomes.Aborted)) ∷
    marked 4 (Sent 60 2 (messages.Decision (tx 1 2) outcomes.Aborted)) ∷ marked 4 (Told replies.Dropped) ∷
    marked 1 (Got 59) ∷ marked 2 (Got 60) ∷ marked 4 (Called commands.Begin) ∷
    marked 4 (Told (replies.Began (tx 1 3))) ∷ marked 4 (Called (commands.Do 0 0)) ∷
    marked 4 (Sent 61 1 (messages.Request (tx 1 3) 2 0 (wants.Read (first_read 0 0)))) ∷ marked 1 (Got 61) ∷
    marked 1
    (Sent 62 4
    (messages.Answer 61
    (answers.Granted (whole_grant 2 1 (line 1 0 1 1 0 3 ∷ line 1 1 1 1 0 2 ∷ line 1 2 1 1 0 3 ∷ []))))) ∷
    marked 4 (Got 62) ∷ marked 4 (Told (replies.Response 1)) ∷ marked 4 (Called commands.Commit) ∷
    marked 4 (Sent 63 1 (messages.Request (tx 1 3) 2 2 wants.Prepare)) ∷ marked 1 (Got 63) ∷
    marked 1 (Wrote (prepare (tx 1 3) 2 (read_lock 0 0 ∷ []) [] [])) ∷
    marked 1 (Sent 64 4 (messages.Answer 63 (answers.Yes 1))) ∷ marked 4 (Got 64) ∷
    marked 4 (Wrote (commit (stamp 2 1) (tx 1 3) (operation 0 0 (Some 1) ∷ []))) ∷
    marked 4 (Sent 65 1 (messages.Decision (tx 1 3) (outcomes.Committed (stamp 2 1)))) ∷
    marked 4 (Told (replies.Committed (stamp 2 1))) ∷ marked 1 (Got 65) ∷ marked 1 (Wrote (records.Done (tx 1 3) 2)) ∷
    []
