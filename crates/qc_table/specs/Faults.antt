use Rattle.std.specs.Prelude.{◌≡◌, ℕ, Bool, true, false, Option, Some, None, List, [], ◌∷◌, ◌++◌, ◌==◌, ◌&&◌, ◌||◌}
use Rattle.std.specs.Prelude.{nat_le, nat_lt, length, if◌then◌else◌, position}
use Rattle.std.specs.List.{list_any}
use Rattle.qc_table.specs.Limits.{most_events}
use Rattle.qc_table.specs.declared.row.Row.{Row}
use Rattle.qc_table.specs.declared.fault.TableFault.{TableFault}
use Rattle.qc_table.specs.declared.fault.TableFault.TheVariants.{UnknownName, DuplicateRow, TooMany, OutOfMemory}
use Rattle.qc_table.specs.Rules.{Rules, events_of}

-- whether a row names a number past its count
abbrev pub is_unknown : ℕ → ℕ → ℕ → Row → Bool
is_unknown states invs resps row =
    nat_le states row.state || (nat_le invs row.inv || (nat_le resps row.resp || nat_le states row.next))

-- whether two rows have one state, one invocation and one response
abbrev pub same_case : Row → Row → Bool
same_case a b = (a.state == b.state) && ((a.inv == b.inv) && (a.resp == b.resp))

-- the place of the first row that repeats the case of an earlier one, where the rows stand behind these
abbrev pub repeat_after : List Row → List Row → Option ℕ
repeat_after earlier [] = None
repeat_after earlier (row ∷ rows) =
    if list_any (λ r. same_case r row) earlier then Some (length earlier) else repeat_after (earlier ++ row ∷ []) rows

-- the place of the first row that repeats the case of an earlier one
abbrev pub first_repeat : List Row → Option ℕ
first_repeat rows = repeat_after [] rows

-- the fault by its rank: an unknown number, a repeated row, too many events
abbrev pub ranked : Option ℕ → Option ℕ → Bool → Option TableFault
ranked (Some row) repeat many = Some (UnknownName row)
ranked None (Some row) many = Some (DuplicateRow row)
ranked None None true = Some TooMany
ranked None None false = None

-- what is wrong with the rows, if anything
abbrev pub fault_of : Rules → Option TableFault
fault_of rules =
    ranked (position (is_unknown rules.states rules.invs rules.resps) rules.rows) (first_repeat rules.rows)
    (nat_lt most_events (length (events_of rules.rows)))

-- the fault told is the fault there is; want of memory may be told of any rows
abbrev pub IsTold : TableFault → Option TableFault → Type 0
IsTold (UnknownName row) fault = fault ≡ Some (UnknownName row)
IsTold (DuplicateRow row) fault = fault ≡ Some (DuplicateRow row)
IsTold TooMany fault = fault ≡ Some TooMany
IsTold OutOfMemory fault = Unit {0}
