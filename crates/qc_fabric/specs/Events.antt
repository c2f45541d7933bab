-- The events of a history, and what stood before the last of them.
use Rattle.std.specs.Prelude.{Bool, true, false, List, [], ◌∷◌, Option, Some, None, if◌then◌else◌}
use Rattle.std.specs.List.{list_any}
use Rattle.qc_msg.specs.Vocabulary.{Entry}
use Rattle.qc_msg.specs.declared.record.Record.{Record}
use Rattle.qc_msg.specs.declared.step.Step.{Step}
use Rattle.qc_msg.specs.declared.step.Step.TheVariants as steps

-- A fall with a record that was being written ends a post; one without is a control line's: the line crashes the actor,
-- or restarts it and its journal isn't opened
abbrev pub falls_by_line : Option Record → Bool
falls_by_line None = true
falls_by_line (Some written) = false

-- An event begins where a phase begins, where a control line acts, and where an actor takes an input; what the actor
-- posts begins none, nor does a fall that ends a post. A line acts also where an actor falls by it, where the actor
-- rises, and where its journal is damaged; what is posted as it rises begins none.
abbrev pub begins_event : Step → Bool
begins_event (steps.Phase number) = true
begins_event (steps.Cut a b) = true
begins_event (steps.Heal a b) = true
begins_event (steps.Armed actor kind at) = true
begins_event (steps.Called command) = true
begins_event (steps.Got number) = true
begins_event (steps.Lost number) = true
begins_event (steps.Wrote written) = false
begins_event (steps.Sent number to message) = false
begins_event (steps.Told reply) = false
begins_event (steps.Fell cause pending) = falls_by_line pending
begins_event (steps.Rose records) = true
begins_event (steps.Damaged offset) = true

abbrev pub has_event : List Entry → Bool
has_event h = list_any (λ e. begins_event e.step) h

-- The history before its last event: an entry stands there where an event begins after it.
abbrev pub before_last_event : List Entry → List Entry
before_last_event [] = []
before_last_event (e ∷ later) = if has_event later then e ∷ before_last_event later else []
