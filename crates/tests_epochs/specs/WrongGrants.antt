-- Wrong histories: sites that grant what the next epoch doesn't let them.
use Rattle.std.specs.Prelude.{List, [], ◌∷◌, ◌++◌, take}
use Rattle.qc_msg.specs.Vocabulary.{Entry, marked}
use Rattle.tests_histories.specs.Words.{tx, line}
use Rattle.qc_msg.specs.declared.step.Step.TheVariants.{Phase, Called, Got, Wrote, Sent, Told}
use Rattle.qc_msg.specs.declared.message.Answer.TheVariants as answers
use Rattle.qc_msg.specs.declared.step.Command.TheVariants as commands
use Rattle.qc_msg.specs.declared.message.Message.TheVariants as messages
use Rattle.qc_msg.specs.declared.message.Outcome.TheVariants as outcomes
use Rattle.qc_msg.specs.declared.record.Record.TheVariants as records
use Rattle.qc_msg.specs.declared.reply.Reply.TheVariants as replies
use Rattle.qc_msg.specs.declared.message.Want.TheVariants as wants
use Rattle.qc_msg.specs.Vocabulary.{whole_grant, first_read, snapshot_with, start_with}
use Rattle.tests_epochs.specs.MovedOnce as moved_once
use Rattle.tests_epochs.specs.StampsPassReads as stamps_pass_reads

-- A site grants in an epoch that it left.
abbrev pub granted_in_a_closed_epoch : List Entry
granted_in_a_closed_epoch =
    take 68 moved_once.history ++
    marked 1 (Sent 22 4 (messages.Answer 20 (answers.Granted (whole_grant 2 1 [])))) ∷ []

-- A grant leaves out the lines that the epoch began with.
abbrev pub granted_without_installed_lines : List Entry
granted_without_installed_lines =
    take 85 moved_once.history ++
    marked 1 (Sent 27 4 (messages.Answer 26 (answers.Granted (whole_grant 2 1 [])))) ∷ []

-- A grant's clock doesn't pass the epoch's.
abbrev pub granted_below_installed_clock : List Entry
granted_below_installed_clock =
    take 102 stamps_pass_reads.history ++
    marked 1 (Sent 31 4 (messages.Answer 28 (answers.Granted (whole_grant 2 0 [])))) ∷ []

-- A site that has closed grants in its first life.
abbrev pub granted_in_the_first_life : List Entry
granted_in_the_first_life =
    take 85 moved_once.history ++
    marked 1 (Sent 27 4 (messages.Answer 26 (answers.Granted (whole_grant 1 1 (line 1 0 1 1 0 3 ∷ []))))) ∷ []

-- A site refuses a read for what was held in the epoch before.
abbrev pub refused_for_what_was_dropped : List Entry
refused_for_what_was_dropped =
    take 13 moved_once.history ++
    marked 7 (Phase 2) ∷ marked 6 (Called (commands.Epoch 2)) ∷ marked 6 (Sent 4 0 (messages.Close 2)) ∷
    marked 6 (Sent 5 1 (messages.Close 2)) ∷ marked 0 (Got 4) ∷ marked 0 (Wrote (records.Close 2)) ∷
    marked 0 (Sent 6 6 (messages.Answer 4 (answers.Shut (snapshot_with 0 [] [])))) ∷ marked 1 (Got 5) ∷
    marked 1 (Wrote (records.Close 2)) ∷ marked 1 (Sent 7 6 (messages.Answer 5 (answers.Shut (snapshot_with 0 [] []))))
    ∷
    marked 6 (Got 6) ∷ marked 6 (Got 7) ∷ marked 6 (Wrote (records.Decide (start_with 2 0 []))) ∷
    marked 6 (Sent 8 0 (messages.Install (start_with 2 0 [])))
    ∷ marked 6 (Sent 9 1 (messages.Install (start_with 2 0 []))) ∷
    marked 6 (Sent 10 2 (messages.Install (start_with 2 0 []))) ∷ marked 0 (Got 8)
    ∷ marked 0 (Wrote (records.Install (start_with 2 0 []))) ∷
    marked 0 (Sent 11 6 (messages.Answer 8 answers.Installed)) ∷ marked 1 (Got 9) ∷
    marked 1 (Wrote (records.Install (start_with 2 0 []))) ∷ marked 1 (Sent 12 6 (messages.Answer 9 answers.Installed))
    ∷
    marked 2 (Got 10) ∷ marked 2 (Wrote (records.Install (start_with 2 0 []))) ∷
    marked 2 (Sent 13 6 (messages.Answer 10 answers.Installed)) ∷ marked 6 (Got 11) ∷ marked 6 (Got 12) ∷
    marked 6 (Got 13) ∷ marked 6 (Told (replies.Moved 3 7)) ∷ marked 7 (Phase 3) ∷ marked 4 (Called commands.Begin) ∷
    marked 4 (Told (replies.Began (tx 1 1))) ∷ marked 4 (Called (commands.Do 0 0)) ∷
    marked 4 (Sent 14 1 (messages.Request (tx 1 1) 1 0 (wants.Read (first_read 0 0)))) ∷
    marked 4 (Sent 15 2 (messages.Request (tx 1 1) 1 0 (wants.Read (first_read 0 0)))) ∷ marked 1 (Got 14) ∷
    marked 1 (Sent 16 4 (messages.Answer 14 (answers.Closed 2))) ∷ marked 2 (Got 15) ∷
    marked 2 (Sent 17 4 (messages.Answer 15 (answers.Closed 2))) ∷ marked 4 (Got 16) ∷ marked 4 (Got 17) ∷
    marked 4 (Told (replies.Closed 2 1)) ∷ marked 4 (Called commands.Abort) ∷
    marked 4 (Sent 18 1 (messages.Decision (tx 1 1) outcomes.Aborted)) ∷
    marked 4 (Sent 19 2 (messages.Decision (tx 1 1) outcomes.Aborted)) ∷ marked 4 (Told replies.Dropped) ∷
    marked 1 (Got 18) ∷ marked 2 (Got 19) ∷ marked 4 (Called commands.Begin) ∷
    marked 4 (Told (replies.Began (tx 1 2))) ∷ marked 4 (Called (commands.Do 0 0)) ∷
    marked 4 (Sent 20 1 (messages.Request (tx 1 2) 2 0 (wants.Read (first_read 0 0)))) ∷ marked 1 (Got 20) ∷
    marked 1 (Sent 21 4 (messages.Answer 20 (answers.Clash (tx 0 1) 0 3))) ∷ []
