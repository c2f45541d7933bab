-- What rows without fault name.
use Rattle.std.proofs.Common.{List, [], ◌∷◌, ◌++◌, cond, suc, zero, ◌≡◌, ℕ, ◌<◌, ◌≤◌, Bool, true, false, suc-le-suc}
use Rattle.std.proofs.Common.{zero-lt-suc, Option, Some, None, length, get_or, refl, sym, ◌∙◌, arith}
use Rattle.std.specs.Prelude.{◌||◌, nat_le, nat_lt, position, All, fold}
use Rattle.std.specs.List.{list_any}
use Rattle.std.proofs.lemmas.Bool.{leb-false, or_parts}
use Rattle.std.proofs.lemmas.List.Folds.{list_any_at}
use Rattle.std.proofs.lemmas.List.Elements.{All-append}
use Rattle.qc_table.specs.declared.row.Row.{Row}
use Rattle.qc_table.specs.declared.row.Event.{Event}
use Rattle.qc_table.specs.Vocabulary.{IsSmall, IsSound, Rules, event_of, events_of, first_repeat, is_unknown, ranked}
use Rattle.qc_table.specs.Vocabulary.{same_event, with_event}
use Rattle.qc_table.proofs.Places.{position_none}

-- without a fault no row is unknown
unranked : (unknown repeated : Option ℕ) (many : Bool) → ranked unknown repeated many ≡ None → unknown ≡ None
unranked (Some row) repeated many e = absurd (let never : ⊥ = cc in never)
unranked None repeated many e = refl

-- a sound table has no unknown row
pub none_unknown : (rules : Rules) → IsSound rules
    → list_any (is_unknown rules.states rules.invs rules.resps) rules.rows ≡ false
none_unknown rules sound =
    let test = is_unknown rules.states rules.invs rules.resps in
    position_none test rules.rows (unranked (position test rules.rows) (first_repeat rules.rows)
    (nat_lt 64 (length (events_of rules.rows))) sound.faultless)

-- a row that isn't unknown names a state, an invocation and a response within the counts
pub row_within : (states invs resps : ℕ) (row : Row) → is_unknown states invs resps row ≡ false
    → (row.state < states) × (row.inv < invs) × (row.resp < resps)
row_within states invs resps row known =
    let state = or_parts (nat_le states row.state)
    (nat_le invs row.inv || (nat_le resps row.resp || nat_le states row.next)) known in
    let inv = or_parts (nat_le invs row.inv) (nat_le resps row.resp || nat_le states row.next) state.1 in
    let resp = or_parts (nat_le resps row.resp) (nat_le states row.next) inv.1 in
    (leb-false states row.state state.0, leb-false invs row.inv inv.0, leb-false resps row.resp resp.0)

-- where no row is unknown each is small
pub small_rows : (states invs resps : ℕ) (rows : List Row) → states ≤ 64 → invs ≤ 32 → resps ≤ 32
    → position (is_unknown states invs resps) rows ≡ None → All IsSmall rows
small_rows states invs resps rows s i r none k d l = by (is_unknown states invs resps (get_or rows k d)) refl
  where
    by : (b : Bool) → is_unknown states invs resps (get_or rows k d) ≡ b → IsSmall (get_or rows k d)
    by true e = absurd (let t : true ≡ false = sym (list_any_at (is_unknown states invs resps) rows k d l e)
        ∙ position_none (is_unknown states invs resps) rows none in let never : ⊥ = cc in never)
    by false e =
        let own = row_within states invs resps (get_or rows k d) e in
        let state : (get_or rows k d).state < states = own.0 in
        let inv : (get_or rows k d).inv < invs = own.1 in
        let resp : (get_or rows k d).resp < resps = own.2 in
        record { state = omega arith; inv = omega arith; resp = omega arith }

-- each response of a sound table is below 32
pub responses_within : (rules : Rules) → IsSound rules → All (λ (row : Row). row.resp < 32) rules.rows
responses_within rules sound k d l = let limit : rules.resps ≤ 32 = sound.resps in
    let own : (get_or rules.rows k d).resp < rules.resps =
    by (is_unknown rules.states rules.invs rules.resps (get_or rules.rows k d)) refl in omega arith
  where
    by : (b : Bool) → is_unknown rules.states rules.invs rules.resps (get_or rules.rows k d) ≡ b
        → (get_or rules.rows k d).resp < rules.resps
    by true e = absurd (let t : true ≡ false =
        sym (list_any_at (is_unknown rules.states rules.invs rules.resps) rules.rows k d l e)
        ∙ none_unknown rules sound in let never : ⊥ = cc in never)
    by false e = (row_within rules.states rules.invs rules.resps (get_or rules.rows k d) e).2

-- events with responses below 32 stay so with one more
small_with : (events : List Event) (e : Event) → e.resp < 32 → All (λ (x : Event). x.resp < 32) events
    → All (λ (x : Event). x.resp < 32) (with_event events e)
small_with events e l all = by (list_any (λ x. same_event x e) events)
  where
    one : All (λ (x : Event). x.resp < 32) (e ∷ [])
    one zero d within = l
    one (suc k) d within = absurd (omega arith)

    by : (b : Bool) → All (λ (x : Event). x.resp < 32) (cond b events (events ++ e ∷ []))
    by true = all
    by false = All-append (λ (x : Event). x.resp < 32) events (e ∷ []) all one

small_more : (rows : List Row) (events : List Event) → All (λ (row : Row). row.resp < 32) rows
    → All (λ (x : Event). x.resp < 32) events
    → All (λ (x : Event). x.resp < 32) (fold (λ es row. with_event es (event_of row)) events rows)
small_more [] events each all = all
small_more (row ∷ rows) events each all =
    small_more rows (with_event events (event_of row)) (λ k d l. each (suc k) d (suc-le-suc l))
    (small_with events (event_of row) (each 0 row (zero-lt-suc (length rows))) all)

-- each event of a sound table has a response below 32
pub events_within : (rules : Rules) → IsSound rules → All (λ (e : Event). e.resp < 32) (events_of rules.rows)
events_within rules sound = small_more rules.rows [] (responses_within rules sound) (λ k d l. absurd (omega arith))
