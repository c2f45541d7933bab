use Rattle.std.specs.Prelude.{ℕ, Bool, Option, List, [], ◌∷◌, ◌++◌, ◌==◌, ◌&&◌, if◌then◌else◌, fold, position}
use Rattle.std.specs.List.{list_any}
use Rattle.qc_table.specs.declared.row.Row.{Row}
use Rattle.qc_table.specs.declared.row.Event.{Event}

-- what a table was made of: three counts, the state at the beginning, and the rows as they were given
pub record Rules : Type 0 where
  pub states : ℕ
  pub invs : ℕ
  pub resps : ℕ
  pub start : ℕ
  pub rows : List Row

-- the rules of these counts, this start and these rows
abbrev pub rules_of : ℕ → ℕ → ℕ → ℕ → List Row → Rules
rules_of states invs resps start rows =
    record { states = states; invs = invs; resps = resps; start = start; rows = rows }

-- the event of an invocation and a response
abbrev pub event : ℕ → ℕ → Event
event inv resp = record { inv = inv; resp = resp }

-- the event of a row
abbrev pub event_of : Row → Event
event_of row = event row.inv row.resp

-- whether two events are one
abbrev pub same_event : Event → Event → Bool
same_event a b = (a.inv == b.inv) && (a.resp == b.resp)

-- the events, with this one at the end where they lack it
abbrev pub with_event : List Event → Event → List Event
with_event events e = if list_any (λ x. same_event x e) events then events else events ++ e ∷ []

-- the distinct events of the rows, in the order of their first rows
abbrev pub events_of : List Row → List Event
events_of rows = fold (λ events row. with_event events (event_of row)) [] rows

-- the number of an event: its place among the events
abbrev pub event_number : List Event → Event → Option ℕ
event_number events e = position (λ x. same_event x e) events
