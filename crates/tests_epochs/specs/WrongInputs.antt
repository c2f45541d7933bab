-- Wrong histories: what the administrator takes while something else is due.
use Rattle.std.specs.Prelude.{List, [], ◌∷◌, ◌++◌, take}
use Rattle.qc_msg.specs.Vocabulary.{Entry, marked}
use Rattle.tests_histories.specs.Words.{line}
use Rattle.qc_msg.specs.declared.step.Step.TheVariants.{Phase, Called, Got, Wrote, Sent}
use Rattle.qc_msg.specs.declared.message.Answer.TheVariants as answers
use Rattle.qc_msg.specs.declared.step.Command.TheVariants as commands
use Rattle.qc_msg.specs.declared.message.Message.TheVariants as messages
use Rattle.qc_msg.specs.declared.record.Record.TheVariants as records
use Rattle.qc_msg.specs.Vocabulary.{start_with}
use Rattle.tests_epochs.specs.MovedOnce as moved_once

-- A command comes, though the one before has no reply that is due.
abbrev pub a_reply_untold : List Entry
a_reply_untold =
    take 60 moved_once.history ++
    marked 7 (Phase 3) ∷ marked 6 (Called (commands.Epoch 2)) ∷ []

-- Installs are answered, though the decision isn't written.
abbrev pub a_decision_unwritten : List Entry
a_decision_unwritten =
    take 44 moved_once.history ++
    marked 6 (Sent 14 0 (messages.Install (start_with 2 1 (line 1 0 1 1 0 3 ∷ [])))) ∷
    marked 6 (Sent 15 1 (messages.Install (start_with 2 1 (line 1 0 1 1 0 3 ∷ [])))) ∷
    marked 6 (Sent 16 2 (messages.Install (start_with 2 1 (line 1 0 1 1 0 3 ∷ [])))) ∷ marked 0 (Got 14) ∷
    marked 0 (Wrote (records.Install (start_with 2 1 (line 1 0 1 1 0 3 ∷ [])))) ∷
    marked 0 (Sent 17 6 (messages.Answer 14 answers.Installed)) ∷ marked 1 (Got 15) ∷
    marked 1 (Wrote (records.Install (start_with 2 1 (line 1 0 1 1 0 3 ∷ [])))) ∷
    marked 1 (Sent 18 6 (messages.Answer 15 answers.Installed)) ∷ marked 2 (Got 16) ∷
    marked 2 (Wrote (records.Install (start_with 2 1 (line 1 0 1 1 0 3 ∷ [])))) ∷
    marked 2 (Sent 19 6 (messages.Answer 16 answers.Installed)) ∷ marked 6 (Got 17) ∷ []

-- A command comes while the one before runs.
abbrev pub called_before_its_reply : List Entry
called_before_its_reply =
    take 36 moved_once.history ++
    marked 6 (Called (commands.Epoch 2)) ∷ []
