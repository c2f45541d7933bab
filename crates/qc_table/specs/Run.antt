use Rattle.std.specs.Prelude.{◌≡◌, ℕ, ◌<◌, Bool, Option, Some, None, List, [], ◌∷◌, ◌==◌, ◌&&◌, if◌then◌else◌, min}
use Rattle.std.specs.Prelude.{fold, find, option_map, option_and_then, slice_get, IsSome}
use Rattle.qc_table.specs.declared.row.Row.{Row}
use Rattle.qc_table.specs.declared.row.Event.{Event}
use Rattle.qc_table.specs.Rules.{event, event_of, same_event, events_of, event_number}

-- whether a row is one for this state and event
abbrev pub is_row_of : ℕ → Event → Row → Bool
is_row_of state e row = (row.state == state) && same_event (event_of row) e

-- the state after an event that the rows allow in this state
abbrev pub next_in : List Row → ℕ → Event → Option ℕ
next_in rows state e = option_map (λ (row : Row). row.next) (find (is_row_of state e) rows)

-- the same by the event's number: the sequential specification of a type (Herlihy 1986)
abbrev pub step_of : List Row → ℕ → ℕ → Option ℕ
step_of rows state number = option_and_then (next_in rows state) (slice_get (events_of rows) number)

-- the lower of a response and the lowest so far
abbrev pub lower : Option ℕ → ℕ → Option ℕ
lower None resp = Some resp
lower (Some best) resp = Some (min best resp)

-- the lowest response so far, with one more row
abbrev pub lowest_with : ℕ → ℕ → Option ℕ → Row → Option ℕ
lowest_with state inv best row = if (row.state == state) && (row.inv == inv) then lower best row.resp else best

-- the lowest response that the rows allow an invocation in this state
abbrev pub lowest_in : List Row → ℕ → ℕ → Option ℕ
lowest_in rows state inv = fold (lowest_with state inv) None rows

-- the number of the event with the lowest legal response
abbrev pub first_of : List Row → ℕ → ℕ → Option ℕ
first_of rows state inv =
    option_and_then (λ resp. event_number (events_of rows) (event inv resp)) (lowest_in rows state inv)

-- the event of this number is one of the invocation, legal in this state, and no lower response is legal there
pub record IsLowest (rows : List Row) (state inv number : ℕ) : Type 0 where
  pub resp : ℕ
  pub numbered : slice_get (events_of rows) number ≡ Some (event inv resp)
  pub legal : IsSome (next_in rows state (event inv resp))
  pub lowest : (k : ℕ) → k < resp → next_in rows state (event inv k) ≡ None

-- the state after one event more; no state stays no state
abbrev pub next_state : (ℕ → ℕ → Option ℕ) → Option ℕ → ℕ → Option ℕ
next_state step None number = None
next_state step (Some state) number = step state number

-- the state that events, given by their numbers, lead to
abbrev pub reached : (ℕ → ℕ → Option ℕ) → Option ℕ → List ℕ → Option ℕ
reached step state [] = state
reached step state (number ∷ numbers) = reached step (next_state step state number) numbers

-- the state after events from a state
abbrev pub after : (ℕ → ℕ → Option ℕ) → ℕ → List ℕ → Option ℕ
after step start numbers = reached step (Some start) numbers

-- the events are a legal history of the type
abbrev pub IsLegal : (ℕ → ℕ → Option ℕ) → ℕ → List ℕ → Type 0
IsLegal step start numbers = IsSome (after step start numbers)
