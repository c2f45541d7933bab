-- Wrong histories: decisions of the administrator with another clock or other lines.
use Rattle.std.specs.Prelude.{List, [], ◌∷◌, ◌++◌, take}
use Rattle.qc_msg.specs.Vocabulary.{Entry, marked}
use Rattle.tests_histories.specs.Words.{line}
use Rattle.qc_msg.specs.declared.step.Step.TheVariants.{Got, Wrote, Sent, Told}
use Rattle.qc_msg.specs.declared.message.Answer.TheVariants as answers
use Rattle.qc_msg.specs.declared.message.Message.TheVariants as messages
use Rattle.qc_msg.specs.declared.record.Record.TheVariants as records
use Rattle.qc_msg.specs.declared.reply.Reply.TheVariants as replies
use Rattle.qc_msg.specs.Vocabulary.{start_with}
use Rattle.tests_epochs.specs.StampsPassReads as stamps_pass_reads
use Rattle.tests_epochs.specs.AskLost as ask_lost
use Rattle.tests_epochs.specs.SeveralPromises as several_promises
use Rattle.tests_epochs.specs.MovedOnce as moved_once
use Rattle.tests_epochs.specs.EachEntryMerged as each_entry_merged

-- The clock doesn't pass the stamp of a promise that committed.
abbrev pub a_clock_that_leaves_out_stamps : List Entry
a_clock_that_leaves_out_stamps =
    take 59 stamps_pass_reads.history ++
    marked 6 (Wrote (records.Decide (start_with 2 3 []))) ∷ []

-- The lines of a promise that committed are left out.
abbrev pub committed_lines_left_out : List Entry
committed_lines_left_out =
    take 57 ask_lost.history ++
    marked 6 (Wrote (records.Decide (start_with 2 1 []))) ∷ []

-- The lines of a promise that aborted are there.
abbrev pub aborted_lines_merged : List Entry
aborted_lines_merged =
    take 108 several_promises.history ++
    marked 6 (Wrote (records.Decide (start_with 2 2 (line 1 0 1 1 0 3 ∷ line 1 2 1 1 0 3 ∷ line 2 1 1 1 0 2 ∷ []))))
    ∷ []

-- A line is there that no site told.
abbrev pub a_line_that_nobody_told : List Entry
a_line_that_nobody_told =
    take 44 moved_once.history ++
    marked 6 (Wrote (records.Decide (start_with 2 1 (line 1 0 1 1 0 3 ∷ line 1 0 1 1 0 3 ∷ [])))) ∷ []

-- Of the lines that two sites promised of a transaction one site's are there.
abbrev pub one_entry_of_a_transaction : List Entry
one_entry_of_a_transaction =
    take 65 each_entry_merged.history ++
    marked 6 (Wrote (records.Decide (start_with 2 1 (line 1 0 1 1 0 3 ∷ [])))) ∷ []

-- The sites are sent other lines than the decision has.
abbrev pub another_log_installed : List Entry
another_log_installed =
    take 45 moved_once.history ++
    marked 6 (Sent 14 0 (messages.Install (start_with 2 1 [])))
    ∷ marked 6 (Sent 15 1 (messages.Install (start_with 2 1 []))) ∷
    marked 6 (Sent 16 2 (messages.Install (start_with 2 1 []))) ∷ marked 0 (Got 14)
    ∷ marked 0 (Wrote (records.Install (start_with 2 1 []))) ∷
    marked 0 (Sent 17 6 (messages.Answer 14 answers.Installed)) ∷ marked 1 (Got 15) ∷
    marked 1 (Wrote (records.Install (start_with 2 1 []))) ∷ marked 1 (Sent 18 6 (messages.Answer 15 answers.Installed))
    ∷
    marked 2 (Got 16) ∷ marked 2 (Wrote (records.Install (start_with 2 1 []))) ∷
    marked 2 (Sent 19 6 (messages.Answer 16 answers.Installed)) ∷ marked 6 (Got 17) ∷ marked 6 (Got 18) ∷
    marked 6 (Got 19) ∷ marked 6 (Told (replies.Moved 3 7)) ∷ []
