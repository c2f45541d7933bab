-- The records of a step: those that it puts into its actor's journal or is given back, and those that it rises with;
-- and what holds of all such in a history, by actor.
use Rattle.std.specs.Prelude.{[], unwrap_or, ℕ, List, ◌∷◌, option_to_list}
use Rattle.std.specs.Option.{option_map_or}
use Rattle.std.specs.List.{AllByRecursion as Every}
use Rattle.qc_msg.specs.declared.record.Record.{Record}
use Rattle.qc_msg.specs.declared.step.Step.{Step}
use Rattle.qc_msg.specs.Vocabulary.{Entry, Fallen, fell_in, rose_in, wrote_in}

-- what is written, what was being written as its actor fell, what rises
abbrev pub records_at : Step → List Record
records_at step =
    option_map_or (λ (written : Record). written ∷ []) (wrote_in step)
    (option_map_or (λ (f : Fallen). option_to_list f.pending) (fell_in step) (unwrap_or (rose_in step) []))

abbrev pub risen_at : Step → List Record
risen_at step = unwrap_or (rose_in step) []

-- each record of a step is one of which this holds, by the step's actor

abbrev pub AllPut : (ℕ → Record → Type 0) → List Entry → Type 0
AllPut P h = Every (λ (e : Entry). Every (P e.actor) (records_at e.step)) h

abbrev pub AllRisen : (ℕ → Record → Type 0) → List Entry → Type 0
AllRisen P h = Every (λ (e : Entry). Every (P e.actor) (risen_at e.step)) h
