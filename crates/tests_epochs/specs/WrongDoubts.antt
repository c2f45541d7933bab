-- Wrong histories: doubts of the administrator, and a decision in doubt.
use Rattle.std.specs.Prelude.{List, [], ◌∷◌, ◌++◌, take}
use Rattle.qc_msg.specs.Vocabulary.{Entry, marked}
use Rattle.tests_histories.specs.Words.{tx, line}
use Rattle.qc_msg.specs.declared.step.Step.TheVariants.{Wrote, Told}
use Rattle.qc_msg.specs.declared.record.Record.TheVariants as records
use Rattle.qc_msg.specs.declared.reply.Reply.TheVariants as replies
use Rattle.qc_msg.specs.Vocabulary.{start_with}
use Rattle.tests_epochs.specs.StampsPassReads as stamps_pass_reads
use Rattle.tests_epochs.specs.AskLost as ask_lost
use Rattle.tests_epochs.specs.DoubtOfSecond as doubt_of_second

-- A transaction is told as in doubt that committed.
abbrev pub doubt_of_what_is_answered : List Entry
doubt_of_what_is_answered =
    take 59 stamps_pass_reads.history ++
    marked 6 (Told (replies.InDoubt (tx 0 4) 0)) ∷ []

-- The doubt is told at another site than the first one.
abbrev pub doubt_at_another_site : List Entry
doubt_at_another_site =
    take 42 ask_lost.history ++
    marked 6 (Told (replies.InDoubt (tx 0 1) 1)) ∷ []

-- A transaction is told as in doubt that isn't the one.
abbrev pub doubt_of_another_promise : List Entry
doubt_of_another_promise =
    take 106 doubt_of_second.history ++
    marked 6 (Told (replies.InDoubt (tx 2 1) 0)) ∷ []

-- A transaction is told as in doubt, and nobody was asked.
abbrev pub doubt_before_it_is_asked : List Entry
doubt_before_it_is_asked =
    take 40 ask_lost.history ++
    marked 6 (Told (replies.InDoubt (tx 0 1) 0)) ∷ []

-- An epoch is decided, though a transaction is in doubt.
abbrev pub decided_in_doubt : List Entry
decided_in_doubt =
    take 42 ask_lost.history ++
    marked 6 (Wrote (records.Decide (start_with 2 1 (line 1 0 1 1 0 3 ∷ [])))) ∷ []
