-- What the places of a rack in memory hold after a change of one.
use Rattle.std.proofs.Common.{◌≡◌, ◌≢◌, ℕ, zero, suc, ◌+◌, ◌<◌, Bool, true, false, cond, List, [], ◌∷◌, length, take}
use Rattle.std.proofs.Common.{find, slice_set, slice_index_or, Option, Some, None, refl, sym, ◌∙◌, ap, subst, arith}
use Rattle.std.specs.Prelude.{nat_eq, option_map, Vec, vec_len}
use Rattle.std.specs.declared.alloc.Global.{Global}
use Rattle.std.specs.Option.{option_or}
use Rattle.std.proofs.lemmas.Bool.{eqb-true, eq-eqb}
use Rattle.std.specs.Cmp.Derive.{both_true}
use Rattle.std.proofs.lemmas.List.Folds.{find-append}
use Rattle.std.proofs.lemmas.Slice.Eq.{bytes_eq-Decides}
use Rattle.qc_outside.specs.Vocabulary.{HoldsNoByte, IsAdded, IsFirstAt, IsSameElsewhere, Place, held, held_after}
use Rattle.qc_outside.specs.Vocabulary.{is_at, is_folder, name_of}
use Rattle.qc_outside.specs.declared.mem_rack.Kept.{Kept}
use Rattle.qc_list.proofs.Booleans.{and_parts}

same_folder : (a b : Option (List ℕ)) → is_folder a b ≡ true → a ≡ b
same_folder None None e = refl
same_folder None (Some b) e = absurd (cc e)
same_folder (Some a) None e = absurd (cc e)
same_folder (Some a) (Some b) e = ap Some ((bytes_eq-Decides a b).0 e)

-- what is kept is at one place
one_place : (p q : Place) (k : Kept) → is_at p k ≡ true → is_at q k ≡ true → q ≡ p
one_place p q k at_p at_q =
    let of_p = and_parts (is_folder p.folder (name_of k.folder)) (nat_eq p.actor k.actor) at_p in
    let of_q = and_parts (is_folder q.folder (name_of k.folder)) (nat_eq q.actor k.actor) at_q in
    let folder : q.folder ≡ p.folder = same_folder q.folder (name_of k.folder) of_q.0
    ∙ sym (same_folder p.folder (name_of k.folder) of_p.0) in
    let actor : q.actor ≡ p.actor = eqb-true q.actor k.actor of_q.1 ∙ sym (eqb-true p.actor k.actor of_p.1) in
    ap (λ (f : Option (List ℕ)). record { folder = f; actor = q.actor }) folder
    ∙ ap (λ (a : ℕ). record { folder = p.folder; actor = a }) actor

elsewhere : (p q : Place) (k : Kept) → is_at p k ≡ true → q ≢ p → is_at q k ≡ false
elsewhere p q k here other = by (is_at q k) refl
  where
    by : (b : Bool) → is_at q k ≡ b → is_at q k ≡ false
    by true e = absurd (other (one_place p q k here e))
    by false e = e

passed : (b : Bool) (x : Kept) (rest more r : Option Kept) → (rest ≡ None → more ≡ r) → cond b (Some x) rest ≡ None
    → cond b (Some x) more ≡ r
passed true x rest more r f e = absurd (cc e)
passed false x rest more r f e = f e

found_first : (p : Kept → Bool) (all : List Kept) (i : ℕ) (d : Kept) → i < length all → find p (take i all) ≡ None
    → p (slice_index_or all i d) ≡ true → find p all ≡ Some (slice_index_or all i d)
found_first p [] i d within none is = absurd (omega (arith, within))
found_first p (x ∷ all) zero d within none is = ap (λ b. cond b (Some x) (find p all)) is
found_first p (x ∷ all) (suc i) d within none is =
    passed (p x) x (find p (take i all)) (find p all) (Some (slice_index_or all i d))
    (λ e. found_first p all i d (omega (arith, within)) e is) none

found_changed : (p : Kept → Bool) (all : List Kept) (i : ℕ) (k : Kept) → i < length all → find p (take i all) ≡ None
    → p k ≡ true → find p (slice_set all i k) ≡ Some k
found_changed p [] i k within none is = absurd (omega (arith, within))
found_changed p (x ∷ all) zero k within none is = ap (λ b. cond b (Some k) (find p all)) is
found_changed p (x ∷ all) (suc i) k within none is =
    passed (p x) x (find p (take i all)) (find p (slice_set all i k)) (Some k)
    (λ e. found_changed p all i k (omega (arith, within)) e is) none

found_same : (p : Kept → Bool) (all : List Kept) (i : ℕ) (k d : Kept) → p (slice_index_or all i d) ≡ false → p k ≡ false
    → find p (slice_set all i k) ≡ find p all
found_same p [] i k d old new = refl
found_same p (x ∷ all) zero k d old new = ap (λ b. cond b (Some k) (find p all)) new
    ∙ sym (ap (λ b. cond b (Some x) (find p all)) old)
found_same p (x ∷ all) (suc i) k d old new = ap (λ r. cond (p x) (Some x) r) (found_same p all i k d old new)

-- the bytes of what is kept
abbrev bytes_of : Option Kept → Option (List ℕ)
bytes_of found = option_map (λ k. k.bytes.items) found

-- what the first there holds
pub held_first : (place : Place) (all : List Kept) (i : ℕ) (d : Kept) → IsFirstAt place all (Some i)
    → held all place ≡ Some (slice_index_or all i d).bytes.items
held_first place all i d first = ap bytes_of (found_first (is_at place) all i d first.0 first.1 (first.2 d))

-- once it has these bytes
pub held_put : (place : Place) (all : List Kept) (i : ℕ) (old new : Kept) (bytes : List ℕ)
    → IsFirstAt place all (Some i) → is_at place new ≡ is_at place old → slice_index_or all i old ≡ old
    → new.bytes.items ≡ bytes
    → (held (slice_set all i new) place ≡ held_after (held all place) bytes)
    × IsSameElsewhere place (held all) (held (slice_set all i new))
held_put place all i old new bytes first same there are =
    let here : is_at place new ≡ true = same ∙ ap (is_at place) (sym there) ∙ first.2 old in
    let now : held (slice_set all i new) place ≡ Some bytes =
    ap bytes_of (found_changed (is_at place) all i new first.0 first.1 here) ∙ ap Some are in
    let before = held_first place all i old first in (
      now ∙ sym (ap (λ (h : Option (List ℕ)). held_after h bytes) before),
      λ q other. ap bytes_of (found_same (is_at q) all i new old
          (elsewhere place q (slice_index_or all i old) (first.2 old) other) (elsewhere place q new here other)),
    )

-- one place more, of which nothing was kept
pub held_more : (place : Place) (old new : List Kept) → IsFirstAt place old None → IsAdded old place new
    → HoldsNoByte (held old place) × (held new place ≡ Some []) × IsSameElsewhere place (held old) (held new)
held_more place old new none (kept, empty, are) =
    let folder : is_folder place.folder (name_of kept.folder) ≡ true = ap (is_folder place.folder) empty.folder
    ∙ folder_itself place.folder in
    let actor : nat_eq place.actor kept.actor ≡ true = eq-eqb place.actor kept.actor (sym empty.actor) in
    let here : is_at place kept ≡ true = both_true folder actor in
    let whole = λ (q : Place). ap (λ (l : List Kept). find (is_at q) l) are ∙ find-append (is_at q) old (kept ∷ []) in (
      subst HoldsNoByte (sym (ap bytes_of none)) tt,
      ap bytes_of (whole place ∙ ap (λ (f : Option Kept). option_or f (find (is_at place) (kept ∷ []))) none
          ∙ ap (λ b. cond b (Some kept) None) here) ∙ ap Some empty.bytes,
      λ q other. ap bytes_of (whole q ∙ ap (λ (f : Option Kept). option_or (find (is_at q) old) f)
          (ap (λ b. cond b (Some kept) None) (elsewhere place q kept here other)) ∙ or_none (find (is_at q) old)),
    )
  where
    folder_itself : (a : Option (List ℕ)) → is_folder a a ≡ true
    folder_itself None = refl
    folder_itself (Some a) = (bytes_eq-Decides a a).1 refl

    or_none : (f : Option Kept) → option_or f None ≡ f
    or_none None = refl
    or_none (Some k) = refl

no_items : (v : Vec ℕ Global) → vec_len v ≡ 0 → v.items ≡ []
no_items v none = by v.items (omega (arith, none, v.ok.0))
  where
    by : (l : List ℕ) → length l ≡ 0 → l ≡ []
    by [] e = refl
    by (x ∷ l) e = absurd (omega (arith, e))

-- a place with bytes, and one without
pub holds_some : (place : Place) (all : List Kept) (i : ℕ) (d : Kept) (r : Bool) → IsFirstAt place all (Some i)
    → d ≡ slice_index_or all i d → r ≡ nat_eq (vec_len d.bytes) 0 → r ≡ false → HoldsNoByte (held all place) → ⊥
holds_some place all i d r first is asked isnt none =
    let items : d.bytes.items ≡ [] = ap (λ (k : Kept). k.bytes.items) is
    ∙ subst HoldsNoByte (held_first place all i d first) none in
    let zero_len : vec_len d.bytes ≡ 0 = omega (arith, d.bytes.ok.0, ap length items) in
    absurd (true_false (sym (eq-eqb (vec_len d.bytes) 0 zero_len) ∙ sym asked ∙ isnt))
  where
    true_false : true ≡ false → ⊥
    true_false e = absurd (cc e)

pub holds_none : (place : Place) (all : List Kept) (i : ℕ) (d : Kept) (r : Bool) → IsFirstAt place all (Some i)
    → d ≡ slice_index_or all i d → r ≡ nat_eq (vec_len d.bytes) 0 → r ≡ true
    → HoldsNoByte (held all place) × (held all place ≡ Some []) × IsSameElsewhere place (held all) (held all)
holds_none place all i d r first is asked does =
    let none : (slice_index_or all i d).bytes.items ≡ [] = ap (λ (k : Kept). k.bytes.items) (sym is)
    ∙ no_items d.bytes (eqb-true (vec_len d.bytes) 0 (sym asked ∙ does)) in
    let held_is = held_first place all i d first in
    (subst HoldsNoByte (sym held_is) none, held_is ∙ ap Some none, λ q other. refl)

none_after : (p : Kept → Bool) (all : List Kept) (i : ℕ) (d : Kept) → find p (take i all) ≡ None
    → p (slice_index_or all i d) ≡ false → find p (take (suc i) all) ≡ None
none_after p [] i d none is = refl
none_after p (x ∷ all) zero d none is = ap (λ b. cond b (Some x) None) is
none_after p (x ∷ all) (suc i) d none is =
    passed (p x) x (find p (take i all)) (find p (take (suc i) all)) None (λ e. none_after p all i d e is) none

-- one more that isn't at the place
pub none_next : (p : Kept → Bool) (all : List Kept) (i : ℕ) (d : Kept) → find p (take i all) ≡ None
    → p (slice_index_or all i d) ≡ false → find p (take (i + 1) all) ≡ None
none_next p all i d none is =
    let next : suc i ≡ i + 1 = omega arith in
    subst (λ (n : ℕ). find p (take n all) ≡ None) next (none_after p all i d none is)
