-- Who holds a place first: what a range of places gives.
use Rattle.std.proofs.Common.{◌≡◌, ℕ, ◌≤◌, arith, Bool, true, false, cond, ◌==◌, ◌&&◌, List, [], ◌∷◌, Option, Some}
use Rattle.std.proofs.Common.{None, refl, sym, ◌∙◌, ap, subst, not}
use Rattle.std.specs.BTreeMap.Range.{IsFromStart}
use Rattle.std.specs.BTreeSet.{BTreeSet, contains, IsKeyRangeOf}
use Rattle.std.specs.Ordering.{is_gt, is_lt, nat_cmp, ordering_then}
use Rattle.std.specs.declared.cmp.Ordering.{Ordering}
use Rattle.std.specs.declared.cmp.Ordering.TheVariants.{Less, Equal, Greater}
use Rattle.std.specs.declared.ops.Bound.{Bound}
use Rattle.std.specs.declared.ops.Bound.TheVariants.{Unbounded}
use Rattle.std.proofs.lemmas.Bool.{and_parts, eq-eqb, eqb-true, false_from_ne_true, both_ways, not-true}
use Rattle.std.proofs.lemmas.Bool.Decides.{nat_tests}
use Rattle.std.proofs.lemmas.Map.Keys.{le_from_not_gt}
use Rattle.qc_stamp.specs.declared.stamp.TxId.{TxId}
use Rattle.qc_stamp.specs.Vocabulary.{tx_cmp}
use Rattle.qc_stamp.proofs.Orders.{transactions_are_ordered, same_tx_itself, same_tx_is}
use Rattle.qc_lock.specs.declared.holder_set.HolderKey.{HolderKey}
use Rattle.qc_lock.specs.Vocabulary.{IsFirst, holder_at, is_there, place_cmp, same_tx}
use Rattle.qc_lock.proofs.NumberedEntries.{cmp_self, nat_self}
use Rattle.qc_list.proofs.Numbers.{cmp_same}

abbrev pub place : ℕ → ℕ → TxId → HolderKey
place object number tx = record { object = object; number = number; tx = tx }

-- the order of places

first_most : (a b : Ordering) → is_gt (ordering_then a b) ≡ false → is_gt a ≡ false
first_most Less b h = refl
first_most Equal b h = refl
first_most Greater b h = h

second_most : (a b : Ordering) → a ≡ Equal → is_gt (ordering_then a b) ≡ false → is_gt b ≡ false
second_most a b is h = subst (λ o. is_gt (ordering_then o b) ≡ false) is h

at_once : (a b : ℕ) → is_gt (nat_cmp a b) ≡ false → is_gt (nat_cmp b a) ≡ false → a ≡ b
at_once a b up down = let low : a ≤ b = le_from_not_gt a b up in let high : b ≤ a = le_from_not_gt b a down in
    omega arith

-- what stands between two places of one object and number is of these
between : (object number : ℕ) (p : HolderKey) (x z : TxId) → is_gt (place_cmp (place object number x) p) ≡ false
    → is_gt (place_cmp p (place object number z)) ≡ false → (p.object ≡ object) × (p.number ≡ number)
between object number p x z up down =
    let here : object ≡ p.object = at_once object p.object (first_most (nat_cmp object p.object) _ up)
    (first_most (nat_cmp p.object object) _ down) in
    let above : is_gt (ordering_then (nat_cmp number p.number) (tx_cmp x p.tx)) ≡ false =
    second_most (nat_cmp object p.object) _ (cmp_same object p.object here) up in
    let below : is_gt (ordering_then (nat_cmp p.number number) (tx_cmp p.tx z)) ≡ false =
    second_most (nat_cmp p.object object) _ (cmp_same p.object object (sym here)) down in (
      sym here,
      sym (at_once number p.number (first_most (nat_cmp number p.number) _ above)
          (first_most (nat_cmp p.number number) _ below)),
    )

-- places of one object and number stand as their transactions do
pub place_at : (object number : ℕ) (x y : TxId) → place_cmp (place object number x) (place object number y) ≡ tx_cmp x y
place_at object number x y =
    ap (λ o. ordering_then o (ordering_then (nat_cmp number number) (tx_cmp x y))) (nat_self object)
    ∙ ap (λ o. ordering_then o (tx_cmp x y)) (nat_self number)

-- the name before all others
pub none_before : (x y : TxId) → x.client ≡ 0 → x.life ≡ 0 → x.number ≡ 0 → is_gt (tx_cmp x y) ≡ false
none_before x y client life number =
    by (nat_cmp x.client y.client) _ (low x.client y.client client)
    (by (nat_cmp x.life y.life) _ (low x.life y.life life) (low x.number y.number number)) where
      low : (a b : ℕ) → a ≡ 0 → is_gt (nat_cmp a b) ≡ false
      low a b is = grind (arith, nat_tests)

      by : (a b : Ordering) → is_gt a ≡ false → is_gt b ≡ false → is_gt (ordering_then a b) ≡ false
      by Less b up rest = refl
      by Equal b up rest = rest
      by Greater b up rest = up

-- ranges

abbrev pub From : Bound HolderKey → HolderKey → Type 0
From lo p = IsFromStart place_cmp lo p

not_greater : (o : Ordering) → is_gt o ≡ false → o ≡ Greater → ⊥
not_greater o most is = both_ways (is_gt o) most (ap is_gt is)

pub none_found : (places : BTreeSet HolderKey) (object number : ℕ) (lo : Bound HolderKey) (test : TxId → Bool)
    → ((tx : TxId) → test tx ≡ true → From lo (place object number tx))
    → IsKeyRangeOf place_cmp lo Unbounded places []
    → IsFirst places object number test None
none_found places object number lo test from range =
    λ tx passes. range.5 refl (place object number tx) (from tx passes, tt)

pub one_found : (places : BTreeSet HolderKey) (object number : ℕ) (lo : Bound HolderKey) (start : TxId)
    (test : TxId → Bool)
    (p : HolderKey) (rest : List HolderKey)
    → ((tx : TxId) → test tx ≡ true → From lo (place object number tx))
    → ((q : HolderKey) → From lo q → is_gt (place_cmp (place object number start) q) ≡ false)
    → ((tx : TxId) → From lo (place object number tx) → test tx ≡ true)
    → IsKeyRangeOf place_cmp lo Unbounded places (p ∷ rest)
    → IsFirst places object number test (holder_at p object number)
one_found places object number lo start test p rest from low back range =
    by ((p.object == object) && (p.number == number)) refl where
      least : (tx : TxId) → test tx ≡ true → is_there places object number tx ≡ true
          → is_gt (place_cmp p (place object number tx)) ≡ false
      least tx passes there = range.2 (place object number tx) (from tx passes, tt) there

      here : p.object ≡ object → p.number ≡ number → p ≡ place object number p.tx
      here o n = λ i. record { object = o i; number = n i; tx = p.tx }

      by : (t : Bool) → ((p.object == object) && (p.number == number)) ≡ t
          → IsFirst places object number test (cond t (Some p.tx) None)
      by true is =
          let parts = and_parts (p.object == object) (p.number == number) is in
          let same : p ≡ place object number p.tx =
          here (eqb-true p.object object parts.0) (eqb-true p.number number parts.1) in (
            subst (λ q. contains place_cmp places q ≡ true) same range.1.1,
            back p.tx (subst (From lo) same range.1.0.0),
            λ tx passes there. not_greater (tx_cmp p.tx tx)
                (subst (λ o. is_gt o ≡ false) (place_at object number p.tx tx)
                (subst (λ q. is_gt (place_cmp q (place object number tx)) ≡ false) same (least tx passes there))),
          )
      by false is = λ tx passes. false_from_ne_true (is_there places object number tx) (λ there.
          let parts = between object number p start tx (low p range.1.0.0) (least tx passes there) in
          both_ways ((p.object == object) && (p.number == number)) is
          (subst (λ b. (b && (p.number == number)) ≡ true) (sym (eq-eqb p.object object parts.0))
          (eq-eqb p.number number parts.1)))

-- where the first is the transaction itself, the next after it

pub beside_next : (places : BTreeSet HolderKey) (object number : ℕ) (tx : TxId) (next : Option TxId)
    → IsFirst places object number (λ other. true) (Some tx)
    → IsFirst places object number (λ other. is_lt (tx_cmp tx other)) next
    → IsFirst places object number (λ other. not (same_tx other tx)) next
beside_next places object number tx next first is = by next is where
  later : (other : TxId) → not (same_tx other tx) ≡ true → is_there places object number other ≡ true
      → is_lt (tx_cmp tx other) ≡ true
  later other apart there = order (tx_cmp tx other) refl where
    order : (o : Ordering) → tx_cmp tx other ≡ o → is_lt o ≡ true
    order Less same = refl
    order Equal same =
        let equal : tx ≡ other = transactions_are_ordered.apart tx other same in
        absurd (both_ways (same_tx other tx) (not-true (same_tx other tx) apart)
        (subst (λ u. same_tx u tx ≡ true) equal (same_tx_itself tx)))
    order Greater same = absurd (first.2 other refl there same)

  apart : (holder : TxId) → is_lt (tx_cmp tx holder) ≡ true → not (same_tx holder tx) ≡ true
  apart holder less = ap not (false_from_ne_true (same_tx holder tx) (λ same.
      let itself : tx_cmp tx holder ≡ Equal = subst (λ u. tx_cmp tx u ≡ Equal) (sym (same_tx_is holder tx same))
      (cmp_self transactions_are_ordered.total tx) in
      both_ways (is_lt (tx_cmp tx holder)) (ap is_lt itself) less))

  by : (next : Option TxId) → IsFirst places object number (λ other. is_lt (tx_cmp tx other)) next
      → IsFirst places object number (λ other. not (same_tx other tx)) next
  by None is = λ other passes. false_from_ne_true (is_there places object number other) (λ there.
      both_ways (is_there places object number other) (is other (later other passes there)) there)
  by (Some holder) is = (is.0, apart holder is.1, λ other passes there. is.2 other (later other passes there) there)
