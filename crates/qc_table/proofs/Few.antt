-- Events only grow in number as rows are added.
use Rattle.std.proofs.Common.{◌≡◌, ℕ, ◌≤◌, Bool, false, cond, List, [], ◌∷◌, ◌++◌, ◌<◌, true, drop, drop-cons, get_or}
use Rattle.std.proofs.Common.{ltb, suc, sym, ap, ◌∙◌, length, length-append, arith, Option, Some, None, refl, ◌-◌}
use Rattle.std.proofs.Common.{nat_lt}
use Rattle.std.specs.Prelude.{fold, position}
use Rattle.std.specs.List.{list_any}
use Rattle.std.proofs.lemmas.Bool.{lt-ltb, leb-false}
use Rattle.qc_table.specs.declared.row.Row.{Row}
use Rattle.qc_table.specs.declared.row.Event.{Event}
use Rattle.qc_table.specs.Vocabulary.{event_of, events_of, same_event, with_event, ranked, Rules, fault_of}
use Rattle.qc_table.specs.Vocabulary.{first_repeat, is_unknown, most_events}

longer : (events : List Event) (e : Event) → length events ≤ length (with_event events e)
longer events e = by (list_any (λ x. same_event x e) events)
  where
    by : (b : Bool) → length events ≤ length (cond b events (events ++ e ∷ []))
    by true = omega arith
    by false = omega (arith, length-append events (e ∷ []))

-- with more rows there are as many events or more
pub events_grow : (rows : List Row) (events : List Event)
    → length events ≤ length (fold (λ es row. with_event es (event_of row)) events rows)
events_grow [] events = omega arith
events_grow (row ∷ rows) events = omega (
  arith,
  longer events (event_of row),
  events_grow rows (with_event events (event_of row)),
)

-- where a row's event is one too many the rows have too many
pub too_many : (rows : List Row) (events : List Event) (n : ℕ) (d : Row) → n < length rows
    → fold (λ es row. with_event es (event_of row)) events (drop n rows) ≡ events_of rows
    → 64 < length (with_event events (event_of (get_or rows n d))) → ltb 64 (length (events_of rows)) ≡ true
too_many rows events n d l whole many =
    let row : Row = get_or rows n d in
    let rest : fold (λ es r. with_event es (event_of r)) events (drop n rows) ≡ fold
    (λ es r. with_event es (event_of r)) (with_event events (event_of row)) (drop (suc n) rows) =
    ap (fold (λ es r. with_event es (event_of r)) events) (drop-cons rows n d l) in
    lt-ltb 64 (length (events_of rows)) (omega
    (arith, ap length (sym rest ∙ whole), events_grow (drop (suc n) rows) (with_event events (event_of row))))

pub ranked_none : (unknown repeat : Option ℕ) (many : Bool) → ranked unknown repeat many ≡ None → many ≡ false
ranked_none (Some row) repeat many is = absurd (let never : ⊥ = cc in never)
ranked_none None (Some row) many is = absurd (let never : ⊥ = cc in never)
ranked_none None None true is = absurd (let never : ⊥ = cc in never)
ranked_none None None false is = refl

pub few_events : (rules : Rules) → fault_of rules ≡ None → length (events_of rules.rows) ≤ most_events
few_events rules none =
    let few : length (events_of rules.rows) < 65 =
    leb-false 65 (length (events_of rules.rows))
    (ranked_none (position (is_unknown rules.states rules.invs rules.resps) rules.rows) (first_repeat rules.rows)
    (nat_lt 64 (length (events_of rules.rows))) none) in
    omega arith
