-- An ordered list whose items all stand in another ordered list is what a set of positions picks from it.
use Rattle.std.proofs.Common.{◌≡◌, ℕ, zero, suc, Bool, true, false, IsTrue, inl, inr, List, [], ◌∷◌, map, slice_get}
use Rattle.std.proofs.Common.{Some, refl, arith, ◌<◌, le_of_suc-le-suc, sym, ap, subst, cond, true≢false}
use Rattle.qc_cert.specs.Vocabulary.{picked}
use Rattle.theory_onecopy.specs.Vocabulary.{IsBeforeAll, IsOrdered}
use Rattle.qc_list.specs.Vocabulary.{In}
use Rattle.qc_list.proofs.Members.{In-at}

-- a set with its answer at 0
abbrev pub shifted : Bool → (ℕ → Bool) → ℕ → Bool
shifted b set zero = b
shifted b set (suc p) = set p

pub picked-map : {A B : Type 0} (f : A → B) (set : ℕ → Bool) (xs : List A)
    → picked set (map f xs) ≡ map f (picked set xs)
picked-map f set [] = refl
picked-map {A = A} {B = B} f set (x ∷ xs) = by_test (set 0) (picked-map f (λ p. set (suc p)) xs)
  where
    by_test : (b : Bool) → picked (λ p. set (suc p)) (map f xs) ≡ map f (picked (λ p. set (suc p)) xs)
        → cond b (f x ∷ picked (λ p. set (suc p)) (map f xs)) (picked (λ p. set (suc p)) (map f xs)) ≡ map f
        (cond b (x ∷ picked (λ p. set (suc p)) xs) (picked (λ p. set (suc p)) xs))
    by_test true ih = ap (λ (l : List B). f x ∷ l) ih
    by_test false ih = ih

module _ {A : Type 0} (before : A → A → Type 0) (strict : (x : A) → before x x → ⊥)
    (trans : (x y z : A) → before x y → before y z → before x z) where
  pub record Picks (xs ys : List A) : Type 0 where
    pub set : ℕ → Bool
    pub is : picked set xs ≡ ys
    pub holds : (p : ℕ) (x : A) → slice_get xs p ≡ Some x → IsTrue (set p) → In x ys
    pub back : (p : ℕ) (x : A) → slice_get xs p ≡ Some x → In x ys → IsTrue (set p)

  -- what stands in x ∷ xs and comes after x stands in xs
  behind : (x : A) (xs ys : List A) → ((y : A) → In y ys → In y (x ∷ xs)) → IsBeforeAll before x ys → (y : A) → In y ys
      → In y xs
  behind x xs ys all after y here = elim (all y here) [
    | inl same ↦ absurd (strict x (subst (λ (z : A). before x z) same (after y here)))
    | inr there ↦ there
  ]

  -- where x is taken, or left out, before the picks of xs
  pub takes : (x : A) (xs ys : List A) → IsBeforeAll before x xs → Picks xs ys → Picks (x ∷ xs) (x ∷ ys)
  takes x xs ys first m = record {
    set = shifted true m.set;
    is = ap (λ (l : List A). x ∷ l) m.is;
    holds = holds;
    back = back;
  }
    where
      holds : (p : ℕ) (z : A) → slice_get (x ∷ xs) p ≡ Some z → IsTrue (shifted true m.set p) → In z (x ∷ ys)
      holds zero z at t = inl cc
      holds (suc p) z at t = inr (m.holds p z at t)

      back : (p : ℕ) (z : A) → slice_get (x ∷ xs) p ≡ Some z → In z (x ∷ ys) → IsTrue (shifted true m.set p)
      back zero z at h = refl
      back (suc p) z at (inl same) = absurd (strict x (subst (λ (w : A). before x w) same (first z (In-at xs p z at))))
      back (suc p) z at (inr h) = m.back p z at h

  pub leaves : (x : A) (xs ys : List A) → (In x ys → ⊥) → Picks xs ys → Picks (x ∷ xs) ys
  leaves x xs ys never m = record {
    set = shifted false m.set;
    is = m.is;
    holds = holds;
    back = back;
  }
    where
      holds : (p : ℕ) (z : A) → slice_get (x ∷ xs) p ≡ Some z → IsTrue (shifted false m.set p) → In z ys
      holds zero z at t = absurd (true≢false (sym t))
      holds (suc p) z at t = m.holds p z at t

      back : (p : ℕ) (z : A) → slice_get (x ∷ xs) p ≡ Some z → In z ys → IsTrue (shifted false m.set p)
      back zero z at h = let same : x ≡ z = cc in absurd (never (subst (λ (w : A). In w ys) (sym same) h))
      back (suc p) z at h = m.back p z at h

  pub picks : (xs ys : List A) → IsOrdered before xs → IsOrdered before ys → ((y : A) → In y ys → In y xs) → Picks xs ys
  picks [] [] ox oy all = record {
    set = λ p. false;
    is = refl;
    holds = λ p x at t. absurd (true≢false (sym t));
    back = λ p x at h. absurd h;
  }
  picks [] (y ∷ ys) ox oy all = absurd (all y (inl refl))
  picks (x ∷ xs) [] ox oy all = leaves x xs [] (λ h. h) (picks xs [] ox.1 tt (λ y h. absurd h))
  picks (x ∷ xs) (y ∷ ys) ox oy all = elim (all y (inl refl)) [
    | inl same ↦ subst (λ (w : A). Picks (x ∷ xs) (w ∷ ys)) (sym same)
        (takes x xs ys ox.0 (picks xs ys ox.1 oy.1
        (behind x xs ys (λ z h. all z (inr h)) (subst (λ (w : A). IsBeforeAll before w ys) same oy.0))))
    | inr there ↦
        let first : IsBeforeAll before x (y ∷ ys) = λ z h. elim h [
          | inl e ↦ subst (λ (w : A). before x w) (sym e) (ox.0 y there)
          | inr later ↦ trans x y z (ox.0 y there) (oy.0 z later)
        ] in
        leaves x xs (y ∷ ys) (λ h. strict x (first x h)) (picks xs (y ∷ ys) ox.1 oy (behind x xs (y ∷ ys) all first))
  ]

  pub ordered_at : (xs : List A) → IsOrdered before xs → (q p : ℕ) (x y : A) → slice_get xs q ≡ Some x
      → slice_get xs p ≡ Some y → q < p → before x y
  ordered_at [] o q p x y qx py l = absurd (cc)
  ordered_at (z ∷ zs) o zero zero x y qx py l = absurd (omega arith)
  ordered_at (z ∷ zs) o zero (suc p) x y qx py l = let same : z ≡ x = cc in
      subst (λ (w : A). before w y) same (o.0 y (In-at zs p y py))
  ordered_at (z ∷ zs) o (suc q) zero x y qx py l = absurd (omega arith)
  ordered_at (z ∷ zs) o (suc q) (suc p) x y qx py l = ordered_at zs o.1 q p x y qx py (le_of_suc-le-suc l)
