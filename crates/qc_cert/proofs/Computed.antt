-- What the tests of a list of triples tell: sets within each other and apart, cover, searches that find nothing.
use Rattle.std.proofs.Common.{◌≡◌, ℕ, zero, suc, min, Bool, true, false, IsTrue, List, [], ◌∷◌, Some, slice_get}
use Rattle.std.proofs.Common.{bit_and, refl, sym, ap, ◌∙◌, arith}
use Rattle.std.specs.Prelude.{◌↔◌, ◌==◌, ◌&&◌, ◌||◌}
use Rattle.std.specs.Int.{bit_at}
use Rattle.std.proofs.lemmas.Bool.{eqb-true, eqb-false, eq-eqb, and_from, and_parts, or_left, or_right, true≢false}
use Rattle.std.proofs.lemmas.Nat.Bits.{bit_at_and, bit_at-lt, bit_at-zero, same_from_bits}
use Rattle.qc_table.specs.Vocabulary.{IsWithin, depended, is_within}
use Rattle.qc_table.specs.declared.kind.Kind.{Kind}
use Rattle.qc_cert.specs.Vocabulary.{Covers, IsCovered, IsFree, covers, is_covered, is_free}
use Rattle.qc_cert.specs.declared.triple.Triple.{Triple}

-- a set is within another where the two have just its members in common
pub within_true : (a b : ℕ) → is_within a b ≡ true → IsWithin a b
within_true a b t k here =
    let all : bit_and a b ≡ a = eqb-true (bit_and a b) a t in
    let both : bit_at a k ≡ min (bit_at a k) (bit_at b k) = ap (λ n. bit_at n k) (sym all) ∙ bit_at_and a b k in
    let one : bit_at a k ≡ 1 = eqb-true (bit_at a k) 1 here in
    eq-eqb (bit_at b k) 1 (omega (arith, bit_at-lt b k))

pub true_within : (a b : ℕ) → IsWithin a b → is_within a b ≡ true
true_within a b within = eq-eqb (bit_and a b) a
    (same_from_bits (bit_and a b) a (λ k. bit_at_and a b k ∙ by k (bit_at a k == 1) refl))
  where
    by : (k : ℕ) (h : Bool) → (bit_at a k == 1) ≡ h → min (bit_at a k) (bit_at b k) ≡ bit_at a k
    by k true h =
        let one : bit_at a k ≡ 1 = eqb-true (bit_at a k) 1 h in
        let other : bit_at b k ≡ 1 = eqb-true (bit_at b k) 1 (within k h) in
        omega arith
    by k false h = grind (arith, bit_at-lt a k)

-- an invocation is free where what it depends on and what is left out are apart
pub free_true : (kind : Kind) (inv out : ℕ) → is_free kind inv out ≡ true → IsFree kind inv out
free_true kind inv out t e left =
    let none : bit_and (depended kind.relation inv) out ≡ 0 = eqb-true (bit_and (depended kind.relation inv) out) 0 t in
    let both : 0 ≡ min (bit_at (depended kind.relation inv) e) (bit_at out e) = sym (bit_at-zero e)
    ∙ ap (λ n. bit_at n e) (sym none) ∙ bit_at_and (depended kind.relation inv) out e in
    let one : bit_at out e ≡ 1 = eqb-true (bit_at out e) 1 left in
    let zero_bit : bit_at (depended kind.relation inv) e ≡ 0 =
    omega (arith, bit_at-lt (depended kind.relation inv) e) in
    ap (λ n. n == 1) zero_bit

pub true_free : (kind : Kind) (inv out : ℕ) → IsFree kind inv out → is_free kind inv out ≡ true
true_free kind inv out free =
    let d : ℕ = depended kind.relation inv in
    eq-eqb (bit_and d out) 0 (same_from_bits (bit_and d out) 0
    (λ k. bit_at_and d out k ∙ by k (bit_at out k == 1) refl ∙ sym (bit_at-zero k)))
  where
    by : (k : ℕ) (h : Bool) → (bit_at out k == 1) ≡ h → min (bit_at (depended kind.relation inv) k) (bit_at out k) ≡ 0
    by k true h =
        let apart : (bit_at (depended kind.relation inv) k ≡ 1)
        → ⊥ = eqb-false (bit_at (depended kind.relation inv) k) 1 (free k h) in
        omega (arith, bit_at-lt (depended kind.relation inv) k)
    by k false h =
        let apart : (bit_at out k ≡ 1) → ⊥ = eqb-false (bit_at out k) 1 h in
        omega (arith, bit_at-lt out k)

-- `covers` tells cover
pub covers_is_cover : (a b : Triple) → IsTrue (covers a b) ↔ Covers a b
covers_is_cover a b = (
  λ t.
      let one : ((a.view == b.view) ≡ true) × (((a.log == b.log) && is_within a.out b.out) ≡ true) =
      and_parts (a.view == b.view) ((a.log == b.log) && is_within a.out b.out) t in
      let two : ((a.log == b.log) ≡ true) × (is_within a.out b.out ≡ true) =
      and_parts (a.log == b.log) (is_within a.out b.out) one.1 in
      record {
        view = eqb-true a.view b.view one.0;
        log = eqb-true a.log b.log two.0;
        out = within_true a.out b.out two.1;
      },
  λ c. and_from (a.view == b.view) ((a.log == b.log) && is_within a.out b.out) (eq-eqb a.view b.view c.view)
      (and_from (a.log == b.log) (is_within a.out b.out) (eq-eqb a.log b.log c.log) (true_within a.out b.out c.out)),
)

-- a triple of a list that covers another
pub covered_true : (list : List Triple) (t : Triple) → is_covered list t ≡ true → IsCovered list t
covered_true [] t h = absurd (true≢false (sym h))
covered_true (a ∷ list) t h = by (covers a t) refl h (covered_true list t)
  where
    by : (b : Bool) → covers a t ≡ b → (b || is_covered list t) ≡ true → (is_covered list t ≡ true → IsCovered list t)
        → IsCovered (a ∷ list) t
    by true is h more = record { place = 0; by = a; listed = refl; covers = (covers_is_cover a t).0 is }
    by false is h more = let c : IsCovered list t = more h in
        record { place = suc c.place; by = c.by; listed = c.listed; covers = c.covers }

any_at : (list : List Triple) (t : Triple) (place : ℕ) (a : Triple) → slice_get list place ≡ Some a → covers a t ≡ true
    → is_covered list t ≡ true
any_at [] t place a at c = absurd (let never : ⊥ = cc in never)
any_at (x ∷ list) t zero a at c = or_left (covers x t) (is_covered list t)
    (let same : x ≡ a = cc in ap (λ y. covers y t) same ∙ c)
any_at (x ∷ list) t (suc place) a at c = or_right (covers x t) (is_covered list t) (any_at list t place a at c)

pub true_covered : (list : List Triple) (t : Triple) → IsCovered list t → is_covered list t ≡ true
true_covered list t c = any_at list t c.place c.by c.listed ((covers_is_cover c.by t).1 c.covers)
