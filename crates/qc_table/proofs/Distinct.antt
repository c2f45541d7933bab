-- No event of the rows stands twice, so that an event's number is its only place.
use Rattle.std.proofs.Common.{◌≡◌, ◌≢◌, ℕ, ◌+◌, ◌-◌, ◌<◌, ◌≤◌, ⊎_elim, Bool, true, false, cond, Option, Some, None}
use Rattle.std.proofs.Common.{List, [], ◌∷◌, ◌++◌, length, get_or, length-append, refl, sym, ap, ◌∙◌, arith}
use Rattle.std.specs.Prelude.{◌==◌, fold, slice_get}
use Rattle.std.specs.List.{list_any}
use Rattle.std.proofs.lemmas.Bool.{eqb-true, eq-eqb, cases_lt}
use Rattle.std.proofs.lemmas.List.{get_or_append_left, get_or-append_right}
use Rattle.std.proofs.lemmas.List.Folds.{list_any_at}
use Rattle.std.proofs.lemmas.List.Quantifiers.{position-Some}
use Rattle.std.proofs.lemmas.Option.{slice_get_within, get_or_from_slice_get}
use Rattle.qc_table.specs.declared.row.Row.{Row}
use Rattle.qc_table.specs.declared.row.Event.{Event}
use Rattle.qc_table.specs.Vocabulary.{event_number, event_of, events_of, same_event, with_event}
use Rattle.qc_table.proofs.Numbered.{same_is, same_itself}
use Rattle.qc_table.proofs.Places.{position_none}

-- no event stands twice
pub record AreDistinct (events : List Event) : Type 0 where
  pub apart : (i j : ℕ) (d : Event) → i < j → j < length events
      → same_event (get_or events i d) (get_or events j d) ≡ false

-- what none of the elements passes a certain one fails
none_at : (p : Event → Bool) (events : List Event) (k : ℕ) (d : Event) → k < length events → list_any p events ≡ false
    → p (get_or events k d) ≡ false
none_at p events k d l none = by (p (get_or events k d)) refl
  where
    by : (b : Bool) → p (get_or events k d) ≡ b → b ≡ false
    by true is = sym (list_any_at p events k d l is) ∙ none
    by false is = refl

-- an event that is added where it is missing leaves them so
distinct_with : (events : List Event) (e : Event) → AreDistinct events → AreDistinct (with_event events e)
distinct_with events e distinct = by (list_any (λ x. same_event x e) events) refl
  where
    more : list_any (λ x. same_event x e) events ≡ false → (i j : ℕ) (d : Event) → i < j → j < length (events ++ e ∷ [])
        → same_event (get_or (events ++ e ∷ []) i d) (get_or (events ++ e ∷ []) j d) ≡ false
    more none i j d below within = ⊎_elim old new (cases_lt j (length events))
      where
        size : length (events ++ e ∷ []) ≡ length events + 1
        size = length-append events (e ∷ [])

        old : j < length events → same_event (get_or (events ++ e ∷ []) i d) (get_or (events ++ e ∷ []) j d) ≡ false
        old l = rw (get_or_append_left events (e ∷ []) d i (omega arith), get_or_append_left events (e ∷ []) d j l)
            (distinct.apart i j d below l)

        new : length events ≤ j → same_event (get_or (events ++ e ∷ []) i d) (get_or (events ++ e ∷ []) j d) ≡ false
        new past =
            let last : j ≡ length events = omega (arith, size) in
            let own : get_or (events ++ e ∷ []) j d ≡ e =
            get_or-append_right events (e ∷ []) (length events) j d refl past
            ∙ ap (λ (n : ℕ). get_or (e ∷ []) n d) (let zeroth : j - length events ≡ 0 = omega arith in zeroth) in
            let l : i < length events = omega arith in
            rw (get_or_append_left events (e ∷ []) d i l, own) (none_at (λ x. same_event x e) events i d l none)

    by : (b : Bool) → list_any (λ x. same_event x e) events ≡ b → AreDistinct (cond b events (events ++ e ∷ []))
    by true is = distinct
    by false is = record { apart = more is }

distinct_more : (rows : List Row) (events : List Event) → AreDistinct events
    → AreDistinct (fold (λ es row. with_event es (event_of row)) events rows)
distinct_more [] events distinct = distinct
distinct_more (row ∷ rows) events distinct =
    distinct_more rows (with_event events (event_of row)) (distinct_with events (event_of row) distinct)

-- the events of rows are distinct
pub events_distinct : (rows : List Row) → AreDistinct (events_of rows)
events_distinct rows = distinct_more rows [] record { apart = λ i j d below within. absurd (omega arith) }

-- whether a number is this one
abbrev pub is_number : Option ℕ → ℕ → Bool
is_number None k = false
is_number (Some n) k = n == k

-- events that differ one way differ the other way
pub flipped : (a b : Event) → same_event b a ≡ false → same_event a b ≡ false
flipped a b differ = by (same_event a b) refl
  where
    by : (t : Bool) → same_event a b ≡ t → t ≡ false
    by true is = let whole : a ≡ b = same_is a b is in sym (same_itself a) ∙ ap (λ e. same_event e a) whole ∙ differ
    by false is = refl

-- an event is the one at a place exactly where that is its number
pub number_tells : (events : List Event) (e x : Event) (k : ℕ) → AreDistinct events → slice_get events k ≡ Some x
    → same_event e x ≡ is_number (event_number events e) k
number_tells events e x k distinct at = by (event_number events e) refl
  where
    within : k < length events
    within = slice_get_within events k x at

    own : get_or events k e ≡ x
    own = get_or_from_slice_get events k x e at

    by : (o : Option ℕ) → event_number events e ≡ o → same_event e x ≡ is_number o k
    by None is = flipped e x (ap (λ y. same_event y e) (sym own)
        ∙ none_at (λ y. same_event y e) events k e within (position_none (λ y. same_event y e) events is))
    by (Some n) is = there (n == k) refl
      where
        found : (n < length events) × (same_event (get_or events n e) e ≡ true)
            × ((j : ℕ) → j < n → same_event (get_or events j e) e ≡ false)
        found = position-Some (λ y. same_event y e) events n e is

        there : (b : Bool) → (n == k) ≡ b → same_event e x ≡ b
        there true at_k =
            let same : get_or events n e ≡ x = ap (λ j. get_or events j e) (eqb-true n k at_k) ∙ own in
            let whole : x ≡ e = sym same ∙ same_is (get_or events n e) e found.1 in
            ap (same_event e) whole ∙ same_itself e
        there false elsewhere = ⊎_elim before behind (cases_lt n k)
          where
            before : n < k → same_event e x ≡ false
            before l = ap (λ y. same_event y x) (sym (same_is (get_or events n e) e found.1))
                ∙ ap (same_event (get_or events n e)) (sym own) ∙ distinct.apart n k e l within

            behind : k ≤ n → same_event e x ≡ false
            behind l =
                let ne : n ≢ k = λ (h : n ≡ k). let t : (n == k) ≡ true = eq-eqb n k h in
                let never : true ≡ false = sym t ∙ elsewhere in cc in
                flipped e x (ap (λ y. same_event y e) (sym own) ∙ found.2 k (omega arith))
