-- Whether rows allow an event in a state, with one more row in front.
use Rattle.std.proofs.Common.{◌≡◌, ℕ, Bool, true, false, cond, List, ◌∷◌, Option, Some, None, refl}
use Rattle.std.specs.Prelude.{is_some, ◌||◌, option_map, find}
use Rattle.qc_table.specs.declared.row.Row.{Row}
use Rattle.qc_table.specs.declared.row.Event.{Event}
use Rattle.qc_table.specs.Vocabulary.{is_row_of, next_in}

-- whether the rows have one for this state and event
abbrev pub is_legal : List Row → ℕ → Event → Bool
is_legal rows state e = is_some (next_in rows state e)

-- one more row in front
pub legal_cons : (row : Row) (rows : List Row) (state : ℕ) (e : Event)
    → is_legal (row ∷ rows) state e ≡ (is_row_of state e row || is_legal rows state e)
legal_cons row rows state e = by (is_row_of state e row)
  where
    by : (b : Bool) → is_some (option_map (λ (r : Row). r.next) (cond b (Some row) (find (is_row_of state e) rows))) ≡
        (b || is_legal rows state e)
    by true = refl
    by false = refl

-- where no row is for this state and event there is no next state
pub none_where_illegal : (o : Option ℕ) → is_some o ≡ false → o ≡ None
none_where_illegal None e = refl
none_where_illegal (Some n) e = absurd (cc)
