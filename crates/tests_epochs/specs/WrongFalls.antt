-- Wrong histories: decisions of the administrator as his disk fails, and of one who rose.
use Rattle.std.specs.Prelude.{List, [], ◌∷◌, ◌++◌, take, Some}
use Rattle.qc_msg.specs.Vocabulary.{Entry, marked}
use Rattle.tests_histories.specs.Words.{line}
use Rattle.qc_msg.specs.declared.step.Step.TheVariants.{Phase, Called, Got, Wrote, Sent, Told, Fell, Rose}
use Rattle.qc_msg.specs.declared.message.Answer.TheVariants as answers
use Rattle.qc_msg.specs.declared.step.Command.TheVariants as commands
use Rattle.qc_msg.specs.declared.message.Message.TheVariants as messages
use Rattle.qc_msg.specs.declared.record.Record.TheVariants as records
use Rattle.qc_msg.specs.declared.reply.Reply.TheVariants as replies
use Rattle.qc_msg.specs.declared.step.Fall.TheVariants as falls
use Rattle.qc_msg.specs.Vocabulary.{snapshot_with, start_with}
use Rattle.tests_epochs.specs.MovedOnce as moved_once
use Rattle.tests_epochs.specs.DecideStops as decide_stops
use Rattle.tests_epochs.specs.InstalledAgain as installed_again

-- Fault is told, though the decision is written.
abbrev pub fault_though_decided : List Entry
fault_though_decided =
    take 45 moved_once.history ++
    marked 6 (Told replies.Fault) ∷ []

-- It is told so, and he falls with the record that he wrote.
abbrev pub fault_before_a_fall : List Entry
fault_before_a_fall =
    take 45 moved_once.history ++
    marked 6 (Told replies.Fault)
    ∷ marked 6 (Fell falls.Disk (Some (records.Decide (start_with 2 1 (line 1 0 1 1 0 3 ∷ []))))) ∷ []

-- Fault is told as his disk stops, and he doesn't fall.
abbrev pub fault_and_no_fall : List Entry
fault_and_no_fall =
    take 46 decide_stops.history ++
    marked 7 (Phase 3) ∷ marked 6 (Called (commands.Epoch 2)) ∷ []

-- As he falls he was writing another decision than is due.
abbrev pub another_record_pending : List Entry
another_record_pending =
    take 46 decide_stops.history ++
    marked 6 (Fell falls.Stop (Some (records.Decide (start_with 2 1 [])))) ∷ []

-- He rises with the decision that he was writing, and writes it again.
abbrev pub decided_again_though_it_rose : List Entry
decided_again_though_it_rose =
    take 48 decide_stops.history ++
    marked 6 (Rose ((records.Decide (start_with 2 1 (line 1 0 1 1 0 3 ∷ []))) ∷ [])) ∷ marked 6 (Wrote records.Life) ∷
    marked 6 (Called (commands.Epoch 2)) ∷ marked 6 (Sent 14 0 (messages.Close 2)) ∷
    marked 6 (Sent 15 1 (messages.Close 2)) ∷ marked 0 (Got 14) ∷
    marked 0 (Sent 16 6 (messages.Answer 14 (answers.Shut (snapshot_with 1 (line 1 0 1 1 0 3 ∷ []) []))))
    ∷ marked 1 (Got 15) ∷
    marked 1 (Sent 17 6 (messages.Answer 15 (answers.Shut (snapshot_with 1 (line 1 0 1 1 0 3 ∷ []) []))))
    ∷ marked 6 (Got 16) ∷
    marked 6 (Got 17) ∷ marked 6 (Wrote (records.Decide (start_with 2 1 (line 1 0 1 1 0 3 ∷ [])))) ∷ []

-- A risen administrator decides an epoch again that his records have.
abbrev pub decided_again_after_a_rise : List Entry
decided_again_after_a_rise =
    take 66 installed_again.history ++
    marked 6 (Wrote (records.Decide (start_with 2 1 (line 1 0 1 1 0 3 ∷ [])))) ∷ []
