-- What the rows of a sound table allow has an invocation and a response within the counts.
use Rattle.std.proofs.Common.{◌≡◌, ℕ, ◌<◌, Bool, true, false, List, [], ◌∷◌, refl, sym, ◌∙◌, subst}
use Rattle.std.specs.Prelude.{◌||◌, ◌==◌}
use Rattle.std.specs.List.{list_any}
use Rattle.std.proofs.lemmas.Bool.{and_parts, or_parts, true≢false}
use Rattle.qc_table.proofs.Legal.{is_legal, legal_cons}
use Rattle.qc_table.proofs.Numbered.{same_is}
use Rattle.qc_table.proofs.Unknown.{none_unknown, row_within}
use Rattle.qc_table.specs.Vocabulary.{IsSound, Rules, event, event_of, is_row_of, is_unknown, same_event}
use Rattle.qc_table.specs.declared.row.Event.{Event}
use Rattle.qc_table.specs.declared.row.Row.{Row}

-- rows of which none is unknown allow only events within the counts
rows_within : (states invs resps : ℕ) (rows : List Row) (state : ℕ) (e : Event)
    → list_any (is_unknown states invs resps) rows ≡ false → is_legal rows state e ≡ true
    → (e.inv < invs) × (e.resp < resps)
rows_within states invs resps [] state e known legal = absurd (true≢false (sym legal))
rows_within states invs resps (row ∷ rows) state e known legal =
    by (is_row_of state e row) refl (sym (legal_cons row rows state e) ∙ legal)
    (rows_within states invs resps rows state e none.1)
  where
    none : (is_unknown states invs resps row ≡ false) × (list_any (is_unknown states invs resps) rows ≡ false)
    none = or_parts (is_unknown states invs resps row) (list_any (is_unknown states invs resps) rows) known

    by : (b : Bool) → is_row_of state e row ≡ b → (b || is_legal rows state e) ≡ true
        → (is_legal rows state e ≡ true → (e.inv < invs) × (e.resp < resps))
        → (e.inv < invs) × (e.resp < resps)
    by true is h more =
        let within = row_within states invs resps row none.0 in
        let same : event_of row ≡ e = same_is (event_of row) e
        (and_parts (row.state == state) (same_event (event_of row) e) is).1 in
        subst (λ (x : Event). (x.inv < invs) × (x.resp < resps)) same (within.1, within.2)
    by false is h more = more h

-- what is allowed in a state is within the counts
pub allowed_within : (rules : Rules) (state inv resp : ℕ) → IsSound rules
    → is_legal rules.rows state (event inv resp) ≡ true → (inv < rules.invs) × (resp < rules.resps)
allowed_within rules state inv resp sound =
    rows_within rules.states rules.invs rules.resps rules.rows state (event inv resp) (none_unknown rules sound)
