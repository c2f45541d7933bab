-- Wrong histories: the administrator sends what nothing calls for.
use Rattle.std.specs.Prelude.{List, [], ◌∷◌, ◌++◌, take}
use Rattle.qc_msg.specs.Vocabulary.{Entry, marked}
use Rattle.tests_histories.specs.Words.{line}
use Rattle.qc_msg.specs.declared.step.Step.TheVariants.{Sent}
use Rattle.qc_msg.specs.declared.message.Message.TheVariants as messages
use Rattle.qc_msg.specs.Vocabulary.{start_with}
use Rattle.tests_epochs.specs.MovedOnce as moved_once
use Rattle.tests_epochs.specs.DecideStops as decide_stops

-- An Install of another log than the one that he decided.
abbrev pub another_log : List Entry
another_log =
    take 45 moved_once.history ++
    marked 6 (Sent 14 0 (messages.Install (start_with 2 1 []))) ∷ []

-- An Install of what was being decided as he fell, before it is decided.
abbrev pub not_decided : List Entry
not_decided =
    take 53 decide_stops.history ++
    marked 6 (Sent 16 2 (messages.Install (start_with 2 1 (line 1 0 1 1 0 3 ∷ [])))) ∷ []
