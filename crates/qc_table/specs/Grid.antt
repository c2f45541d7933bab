-- The grid of a table: the next state, if any, of each state and each event's number.
use Rattle.std.specs.Prelude.{◌≡◌, ℕ, ◌+◌, ◌*◌, Option, Some, None, List, if◌then◌else◌, nat_lt, set, get_or}
use Rattle.std.specs.Option.{option_or}
use Rattle.qc_table.specs.Limits.{most_events}
use Rattle.qc_table.specs.declared.row.Row.{Row}
use Rattle.qc_table.specs.Run.{step_of}

-- where the next state of a state and an event's number stands
abbrev pub grid_place : ℕ → ℕ → ℕ
grid_place state number = state * most_events + number

-- the next state that the grid has
abbrev pub grid_next : List (Option ℕ) → ℕ → ℕ → Option ℕ
grid_next grid state number = if nat_lt number most_events then get_or grid (grid_place state number) None else None

-- the grid with a row, whose event has this number; an earlier row stays
abbrev pub with_next : List (Option ℕ) → Row → ℕ → List (Option ℕ)
with_next grid row number =
    set grid (grid_place row.state number)
    (option_or (get_or grid (grid_place row.state number) None) (Some row.next))

-- the grid with a row; a row whose event has no number adds nothing
abbrev pub with_row : List (Option ℕ) → Row → Option ℕ → List (Option ℕ)
with_row grid row None = grid
with_row grid row (Some number) = with_next grid row number

-- the grid has what the rows give
abbrev pub IsGrid : List Row → List (Option ℕ) → Type 0
IsGrid rows grid = (state number : ℕ) → grid_next grid state number ≡ step_of rows state number
