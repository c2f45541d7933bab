-- Wrong histories: what the administrator makes of the sites that closed.
use Rattle.std.specs.Prelude.{List, [], ◌∷◌, ◌++◌, take}
use Rattle.qc_msg.specs.Vocabulary.{Entry, marked}
use Rattle.tests_histories.specs.Words.{tx, stamp, line}
use Rattle.qc_msg.specs.declared.step.Step.TheVariants.{Called, Got, Wrote, Sent, Told}
use Rattle.qc_msg.specs.declared.message.Answer.TheVariants as answers
use Rattle.qc_msg.specs.declared.step.Command.TheVariants as commands
use Rattle.qc_msg.specs.declared.reply.Half.TheVariants as halves
use Rattle.qc_msg.specs.declared.message.Message.TheVariants as messages
use Rattle.qc_msg.specs.declared.message.Outcome.TheVariants as outcomes
use Rattle.qc_msg.specs.declared.record.Record.TheVariants as records
use Rattle.qc_msg.specs.declared.reply.Reply.TheVariants as replies
use Rattle.qc_msg.specs.Vocabulary.{snapshot_with, start_with}
use Rattle.tests_epochs.specs.MovedOnce as moved_once
use Rattle.tests_epochs.specs.TooFewClose as too_few_close
use Rattle.tests_epochs.specs.AskLost as ask_lost

-- A decided epoch is decided once more.
abbrev pub decided_twice : List Entry
decided_twice =
    take 62 moved_once.history ++
    marked 6 (Called (commands.Epoch 2)) ∷ marked 6 (Wrote (records.Decide (start_with 2 1 (line 1 0 1 1 0 3 ∷ []))))
    ∷ []

-- An epoch is decided, though too few sites have closed.
abbrev pub decided_by_too_few : List Entry
decided_by_too_few =
    take 15 too_few_close.history ++
    marked 6 (Wrote (records.Decide (start_with 2 0 []))) ∷ []

-- An epoch is decided by the plan of the one before the last.
abbrev pub decided_by_another_plan : List Entry
decided_by_another_plan =
    take 62 moved_once.history ++
    marked 6 (Called (commands.Epoch 3)) ∷ marked 6 (Sent 20 0 (messages.Close 3)) ∷
    marked 6 (Sent 21 1 (messages.Close 3)) ∷ marked 6 (Sent 22 2 (messages.Close 3)) ∷ marked 0 (Got 20) ∷
    marked 0 (Wrote (records.Close 3)) ∷
    marked 0 (Sent 23 6 (messages.Answer 20 (answers.Shut (snapshot_with 1 (line 1 0 1 1 0 3 ∷ []) []))))
    ∷ marked 1 (Got 21) ∷
    marked 1 (Wrote (records.Close 3)) ∷
    marked 1 (Sent 24 6 (messages.Answer 21 (answers.Shut (snapshot_with 1 (line 1 0 1 1 0 3 ∷ []) []))))
    ∷ marked 2 (Got 22) ∷
    marked 2 (Wrote (records.Close 3)) ∷
    marked 2 (Sent 25 6 (messages.Answer 22 (answers.Shut (snapshot_with 1 (line 1 0 1 1 0 3 ∷ []) []))))
    ∷ marked 6 (Got 23) ∷
    marked 6 (Got 24) ∷ marked 6 (Wrote (records.Decide (start_with 3 1 (line 1 0 1 1 0 3 ∷ [])))) ∷ []

-- What a site told for an earlier command counts.
abbrev pub a_shut_of_an_earlier_command : List Entry
a_shut_of_an_earlier_command =
    take 52 ask_lost.history ++
    marked 6 (Got 13) ∷ marked 6 (Sent 19 3 (messages.Ask (tx 0 1))) ∷ marked 3 (Got 19) ∷
    marked 3 (Sent 20 6 (messages.Answer 19 (answers.Answered (outcomes.Committed (stamp 1 0))))) ∷ marked 6 (Got 20) ∷
    marked 6 (Wrote (records.Decide (start_with 2 1 (line 1 0 1 1 0 3 ∷ [])))) ∷ []

-- Too few are told before all sites are asked.
abbrev pub short_before_all_are_asked : List Entry
short_before_all_are_asked =
    take 10 too_few_close.history ++
    marked 6 (Told (replies.Quorum halves.Close 0 2)) ∷ []

-- Too few are told with another weight.
abbrev pub short_of_another_weight : List Entry
short_of_another_weight =
    take 15 too_few_close.history ++
    marked 6 (Told (replies.Quorum halves.Close 1 3)) ∷ []

-- Fault is told, though the record fits, and he doesn't fall.
abbrev pub fault_of_nothing : List Entry
fault_of_nothing =
    take 44 moved_once.history ++
    marked 6 (Told replies.Fault) ∷ []
