-- The log: a history, what is counted in it, where its messages stand, and room.
use Rattle.std.specs.Prelude.{ℕ, ◌≡◌, ◌+◌, ◌-◌, ◌^◌, ◌<◌, ◌≤◌, min, nat_le, List, Option, Some, None, get_or, length}
use Rattle.std.specs.Prelude.{if◌then◌else◌}
use Rattle.qc_decl.specs.Vocabulary.{most_carried_lines, most_committed_operations, most_steps}
use Rattle.qc_msg.specs.Vocabulary.{Entry, carried_of, operations_of, tally_of}
use Rattle.qc_msg.specs.declared.step.Quantity.TheVariants.{Steps, Operations, Carried}
use Rattle.qc_fabric.specs.Places.{places_of}
use Rattle.qc_fabric.specs.declared.full.Full.{Full}

-- the history, and for how many steps there is room
pub record Logged : Type 0 where
  pub history : List Entry
  pub room : ℕ

-- a number that is counted in 32 bits: itself, and at most the greatest of them
abbrev pub counted : ℕ → ℕ
counted n = min n (2 ^ 32 - 1)

-- a number of records as it is kept, in 64 bits; no list of records is longer than the greatest of these
abbrev pub stored : ℕ → ℕ
stored n = min n (2 ^ 64 - 1)

-- how many actors a number of 8 bits may name
abbrev pub named_actors : ℕ
named_actors = 256

pub record IsLog (entries : List Entry) (entries_capacity : ℕ) (places : List ℕ) (places_capacity : ℕ)
    (standing : List ℕ)
    (operations carried room : ℕ) : Type 0 where
  pub places_are : places ≡ places_of 0 entries
  pub each_actor : length standing ≡ named_actors
  pub standing_are : (a : ℕ) → a < named_actors → get_or standing a 0 ≡ stored ((tally_of entries).standing a)
  pub operations_are : operations ≡ counted (operations_of entries)
  pub carried_is : carried ≡ counted (carried_of entries)
  pub entries_fit : length entries + room ≤ entries_capacity
  pub places_fit : length places + room ≤ places_capacity

-- which counted quantity has reached its limit first, and its number: steps, then operations, then carried lines
abbrev pub full_of : List Entry → Option Full
full_of h =
    if nat_le most_steps (length h) then Some (record { what = Steps; number = length h })
    else (if nat_le most_committed_operations (counted (operations_of h))
    then Some (record { what = Operations; number = counted (operations_of h) })
    else (if nat_le most_carried_lines (counted (carried_of h))
    then Some (record { what = Carried; number = counted (carried_of h) }) else None))
