-- What a step does to its actor's journal, case by case: it writes a record, falls, rises, or does none of these.
use Rattle.std.specs.Prelude.{List, [], ◌∷◌, ◌++◌, Option, Some, None}
use Rattle.std.specs.Option.{option_map_or}
use Rattle.qc_msg.specs.declared.record.Record.{Record}
use Rattle.qc_msg.specs.declared.step.Step.{Step}
use Rattle.qc_msg.specs.declared.step.Step.TheVariants as steps
use Rattle.qc_msg.specs.Vocabulary.{Fallen, fell_in, rose_in, wrote_in}
use Rattle.qc_promise.specs.Vocabulary.{Journal, pending_with}

pub journal_cases : (P : Step → Option Record → Option Fallen → Option (List Record) → Type 0)
    → ((written : Record) → P (steps.Wrote written) (Some written) None None)
    → ((f : Fallen) → P (steps.Fell f.cause f.pending) None (Some f) None)
    → ((kept : List Record) → P (steps.Rose kept) None None (Some kept))
    → ((step : Step) → P step None None None) → (step : Step) → P step (wrote_in step) (fell_in step) (rose_in step)
journal_cases P writes falls rises rest (steps.Phase number) = rest (steps.Phase number)
journal_cases P writes falls rises rest (steps.Cut a b) = rest (steps.Cut a b)
journal_cases P writes falls rises rest (steps.Heal a b) = rest (steps.Heal a b)
journal_cases P writes falls rises rest (steps.Armed actor kind at) = rest (steps.Armed actor kind at)
journal_cases P writes falls rises rest (steps.Called command) = rest (steps.Called command)
journal_cases P writes falls rises rest (steps.Got number) = rest (steps.Got number)
journal_cases P writes falls rises rest (steps.Lost number) = rest (steps.Lost number)
journal_cases P writes falls rises rest (steps.Wrote written) = writes written
journal_cases P writes falls rises rest (steps.Sent number to message) = rest (steps.Sent number to message)
journal_cases P writes falls rises rest (steps.Told reply) = rest (steps.Told reply)
journal_cases P writes falls rises rest (steps.Fell cause pending) =
    falls (record { cause = cause; pending = pending })
journal_cases P writes falls rises rest (steps.Rose kept) = rises kept
journal_cases P writes falls rises rest (steps.Damaged offset) = rest (steps.Damaged offset)

-- the journal after a step of which this is read
abbrev pub journal_by : Journal → Option Record → Option Fallen → Option (List Record) → Journal
journal_by j wrote fell rose =
    option_map_or (λ (written : Record). record j { records = j.records ++ written ∷ [] }) wrote
    (option_map_or (λ (f : Fallen). record j { pending = pending_with j.pending f.pending }) fell
    (option_map_or (λ (kept : List Record). record { records = kept; pending = None }) rose j))
