-- The legal responses, read off the events.
use Rattle.std.proofs.Common.{◌≡◌, ◌≢◌, ℕ, ◌+◌, ◌*◌, ◌^◌, ◌<◌, ◌≤◌, ⊎_elim, Bool, true, false, cond, List, Option, Some}
use Rattle.std.proofs.Common.{None, length, take, get_or, bit_and, pow_pos, refl, sym, ap, ◌∙◌, arith}
use Rattle.std.specs.Prelude.{◌==◌, ◌&&◌, ◌||◌, ◌↔◌, IsSome, IsBitSet, is_some, option_and_then}
use Rattle.std.specs.Int.{bit_at, trailing_zeros, w32}
use Rattle.std.proofs.lemmas.Nat.Bits.{and_pow, bit_at-trailing_zeros, bit_at-zero, bit_at-lt}
use Rattle.std.proofs.lemmas.Bool.{eqb-true, eq-eqb, cases_lt}
use Rattle.std.proofs.lemmas.List.Folds.{list_any_more}
use Rattle.std.proofs.lemmas.Option.{slice_get-get_or}
use Rattle.qc_table.specs.declared.row.Row.{Row}
use Rattle.qc_table.specs.declared.row.Event.{Event}
use Rattle.qc_table.specs.Vocabulary.{event, event_number, events_of, first_of, has, lowest_in, next_in, same_event}
use Rattle.qc_table.specs.Vocabulary.{step_of, with_member}
use Rattle.qc_table.proofs.Legal.{is_legal}
use Rattle.qc_table.proofs.Lowest.{none_legal, lowest_legal, none_lower}
use Rattle.qc_table.proofs.Numbered.{is_among, legal_among}
use Rattle.qc_table.proofs.Related.{has_with}

-- one more event
pub answer_more : (rows : List Row) (events : List Event) (n : ℕ) (d : Event) (state inv r k : ℕ) → n < length events
    → has r k ≡ (is_among (event inv k) (take n events) && is_legal rows state (event inv k))
    → has (cond (((get_or events n d).inv == inv) && is_legal rows state (get_or events n d))
    (with_member r (get_or events n d).resp) r) k
    ≡ (is_among (event inv k) (take (n + 1) events) && is_legal rows state (event inv k))
answer_more rows events n d state inv r k l ih = by (e.inv == inv) (e.resp == k) (is_legal rows state e) refl refl refl
    ∙ ap (λ b. b && legal) (sym (list_any_more (λ x. same_event x (event inv k)) events n d l))
  where
    e : Event
    e = get_or events n d

    among : Bool
    among = is_among (event inv k) (take n events)

    legal : Bool
    legal = is_legal rows state (event inv k)

    or_false : (a b : Bool) → (a && b) ≡ ((a || false) && b)
    or_false true b = refl
    or_false false b = refl

    or_true : (a b c : Bool) → b ≡ true → (c || true) ≡ ((a || true) && b)
    or_true true true true e = refl
    or_true true true false e = refl
    or_true false true true e = refl
    or_true false true false e = refl
    or_true a false c e = absurd (let never : ⊥ = cc in never)

    or_illegal : (a b c : Bool) → b ≡ false → (a && b) ≡ ((a || c) && b)
    or_illegal true false c e = refl
    or_illegal false false true e = refl
    or_illegal false false false e = refl
    or_illegal a true c e = absurd (let never : ⊥ = cc in never)

    or_none : (c : Bool) → (c || false) ≡ c
    or_none true = refl
    or_none false = refl

    own : (e.inv == inv) ≡ true → (e.resp == k) ≡ true → legal ≡ is_legal rows state e
    own ei et = let same : e ≡ event inv k = ap (λ i. event i e.resp) (eqb-true e.inv inv ei)
        ∙ ap (event inv) (eqb-true e.resp k et) in ap (is_legal rows state) (sym same)

    by : (i t g : Bool) → (e.inv == inv) ≡ i → (e.resp == k) ≡ t → is_legal rows state e ≡ g
        → has (cond (i && g) (with_member r e.resp) r) k ≡ ((among || (i && t)) && legal)
    by false t g ei et eg = ih ∙ or_false among legal
    by true true true ei et eg = has_with r e.resp k ∙ ap (λ b. has r k || b) et
        ∙ or_true among legal (has r k) (own ei et ∙ eg)
    by true true false ei et eg = ih ∙ or_illegal among legal true (own ei et ∙ eg)
    by true false true ei et eg = has_with r e.resp k ∙ ap (λ b. has r k || b) et ∙ or_none (has r k) ∙ ih
        ∙ or_false among legal
    by true false false ei et eg = ih ∙ or_false among legal

-- over all events the responses are the legal ones
pub answered : (rows : List Row) (state : ℕ) (e : Event)
    → (is_among e (events_of rows) && is_legal rows state e) ≡ is_legal rows state e
answered rows state e = by (is_legal rows state e) refl
  where
    by : (b : Bool) → is_legal rows state e ≡ b → (is_among e (events_of rows) && b) ≡ b
    by true is = ap (λ a. a && true) (legal_among rows state e is)
    by false is = last (is_among e (events_of rows))
      where
        last : (a : Bool) → (a && false) ≡ false
        last true = refl
        last false = refl

-- a set that has one member is not 0 there
set_has : (n k : ℕ) → bit_at n k ≡ 1 → IsBitSet n k
set_has n k one none = let whole : bit_and n (2 ^ k) ≡ bit_at n k * 2 ^ k = and_pow n k in
    let some : 0 < 2 ^ k = pow_pos k in let power : 2 ^ k ≡ 0 = omega (arith, ap (λ b. b * 2 ^ k) one) in omega arith

-- and one that lacks it is 0 there
set_lacks : (n k : ℕ) → bit_at n k ≡ 0 → IsBitSet n k → ⊥
set_lacks n k lacks is = is (let whole : bit_and n (2 ^ k) ≡ bit_at n k * 2 ^ k = and_pow n k in
    let none : bit_at n k * 2 ^ k ≡ 0 * 2 ^ k = ap (λ b. b * 2 ^ k) lacks in omega arith)

-- the responses that the loop over all events leaves
pub told : (rows : List Row) (state r k : ℕ) (e : Event)
    → has r k ≡ (is_among e (events_of rows) && is_legal rows state e) → IsBitSet r k ↔ IsSome (next_in rows state e)
told rows state r k e is = by (bit_at r k == 1) refl
  where
    legal : has r k ≡ is_legal rows state e
    legal = is ∙ answered rows state e

    by : (b : Bool) → (bit_at r k == 1) ≡ b → IsBitSet r k ↔ IsSome (next_in rows state e)
    by true has_it = ((λ set. sym legal ∙ has_it), (λ some. set_has r k (eqb-true (bit_at r k) 1 has_it)))
    by false has_not = (
      (λ set. absurd (set_lacks r k lacks set)),
      (λ some. absurd (let never : true ≡ false = sym some ∙ sym legal ∙ has_not in let none : ⊥ = cc in none)),
    )
      where
        lacks : bit_at r k ≡ 0
        lacks = let ne : bit_at r k ≢ 1 = λ (one : bit_at r k ≡ 1). let t : (bit_at r k == 1) ≡ true =
            eq-eqb (bit_at r k) 1 one in let never : true ≡ false = sym t
            ∙ has_not in cc in omega (arith, bit_at-lt r k)

-- what an event of a number leads to is what the rows give for it
step_legal : (rows : List Row) (n : ℕ) (state : ℕ) (d : Event) → n < length (events_of rows)
    → is_some (step_of rows state n) ≡ is_legal rows state (get_or (events_of rows) n d)
step_legal rows n state d l = ap (λ o. is_some (option_and_then (next_in rows state) o))
    (slice_get-get_or (events_of rows) n d l)

-- one more event of the rows, where the test said so
pub answer_step : (rows : List Row) (events : List Event) (n : ℕ) (d : Event) (state inv r new k : ℕ) (b : Bool)
    → events ≡ events_of rows → n < length events
    → b ≡ (((get_or events n d).inv == inv) && is_some (step_of rows state n))
    → new ≡ cond b (with_member r (get_or events n d).resp) r
    → has r k ≡ (is_among (event inv k) (take n (events_of rows)) && is_legal rows state (event inv k))
    → has new k ≡ (is_among (event inv k) (take (n + 1) (events_of rows)) && is_legal rows state (event inv k))
answer_step rows events n d state inv r new k b es l test is ih =
    let l : n < length (events_of rows) = omega (arith, l, ap (length {A = Event}) es) in
    let e : get_or events n d ≡ get_or (events_of rows) n d = ap (λ (xs : List Event). get_or xs n d) es in
    let allowed : b ≡ (((get_or (events_of rows) n d).inv == inv) && is_legal rows state (get_or (events_of rows) n d))
    =
    test ∙ ap (λ (x : Event). (x.inv == inv) && is_some (step_of rows state n)) e
    ∙ ap (λ t. ((get_or (events_of rows) n d).inv == inv) && t) (step_legal rows n state d l) in
    ap (λ s. has s k) (is ∙ ap (λ t. cond t (with_member r (get_or events n d).resp) r) allowed
    ∙ ap (λ (x : Event). cond (((get_or (events_of rows) n d).inv == inv)
    && is_legal rows state (get_or (events_of rows) n d)) (with_member r x.resp) r) e)
    ∙ answer_more rows (events_of rows) n d state inv r k l ih

-- a set without members has no legal response, so there is no lowest one
pub no_lowest : (rows : List Row) (state inv r : ℕ) → r ≡ 0
    → ((k : ℕ) → IsBitSet r k ↔ IsSome (next_in rows state (event inv k))) → lowest_in rows state inv ≡ None
no_lowest rows state inv r empty none = by (lowest_in rows state inv) refl
  where
    by : (o : Option ℕ) → lowest_in rows state inv ≡ o → o ≡ None
    by None is = refl
    by (Some m) is = absurd (set_lacks r m (ap (λ s. bit_at s m) empty ∙ bit_at-zero m)
        ((none m).1 (lowest_legal rows state inv m is)))

-- the lowest member is the lowest legal response
pub lowest_is : (rows : List Row) (state inv r : ℕ) → (r ≡ 0 → ⊥) → r < 2 ^ 32
    → ((k : ℕ) → IsBitSet r k ↔ IsSome (next_in rows state (event inv k)))
    → lowest_in rows state inv ≡ Some (trailing_zeros w32 r)
lowest_is rows state inv r some fits told = by (lowest_in rows state inv) refl
  where
    m : ℕ
    m = trailing_zeros w32 r

    at : (m < 32) × (bit_at r m ≡ 1) × ((i : ℕ) → i < m → bit_at r i ≡ 0)
    at = bit_at-trailing_zeros w32 r (omega arith) fits

    legal : IsSome (next_in rows state (event inv m))
    legal = (told m).0 (set_has r m at.1)

    illegal : next_in rows state (event inv m) ≡ None → ⊥
    illegal none = absurd (let never : false ≡ true = ap is_some (sym none) ∙ legal in let no : ⊥ = cc in no)

    by : (o : Option ℕ) → lowest_in rows state inv ≡ o → o ≡ Some m
    by None is = absurd (illegal (none_legal rows state inv is m))
    by (Some n) is = ⊎_elim below above (cases_lt n m)
      where
        below : n < m → Some n ≡ Some m
        below l = absurd (set_lacks r n (at.2 n l) ((told n).1 (lowest_legal rows state inv n is)))

        above : m ≤ n → Some n ≡ Some m
        above l = ⊎_elim (λ past. absurd (illegal (none_lower rows state inv n is m past)))
            (λ same. let own : n ≡ m = omega arith in ap Some own) (cases_lt m n)

-- so what is first is the number of its event
pub first_is : (rows : List Row) (state inv : ℕ) (o : Option ℕ) → lowest_in rows state inv ≡ o
    → first_of rows state inv ≡ option_and_then (λ r. event_number (events_of rows) (event inv r)) o
first_is rows state inv o is = ap (option_and_then (λ r. event_number (events_of rows) (event inv r))) is
