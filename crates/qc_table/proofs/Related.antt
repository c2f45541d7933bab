-- A relation depends as its pairs say.
use Rattle.std.proofs.Common.{◌≡◌, ℕ, zero, suc, subst, suc-le-suc, zero-lt-suc, ◌^◌, ◌<◌, ◌≤◌, Bool, true, false, List}
use Rattle.std.proofs.Common.{[], ◌∷◌, length, All, get_or, replicate, refl, sym, ap, ◌∙◌, arith}
use Rattle.std.specs.Prelude.{◌==◌, ◌&&◌, ◌||◌, fold}
use Rattle.std.specs.Int.{bit_at}
use Rattle.std.proofs.lemmas.Nat.Bits.{bit_at_or, bit_at-pow_same, bit_at-pow_other, bit_at-zero, bit_at-lt}
use Rattle.std.proofs.Math.Nat.{div-eq_of_lt}
use Rattle.std.proofs.Math.Pow.{pow_mono}
use Rattle.std.proofs.lemmas.Bool.{eqb-true, eq-eqb}
use Rattle.std.proofs.lemmas.List.{length-set, get_or-set_same, get_or-set_other}
use Rattle.qc_table.specs.Vocabulary.{depended, depends, has, is_given, relation_of, with_member, with_pair}
use Rattle.qc_table.specs.declared.relation.Pair.{Pair}

-- a set with one member more has that member and those it had
pub has_with : (s e k : ℕ) → has (with_member s e) k ≡ (has s k || (e == k))
has_with s e k = by (e == k) refl
  where
    by : (b : Bool) → (e == k) ≡ b → has (with_member s e) k ≡ (has s k || b)
    by true is =
        let same : e ≡ k = eqb-true e k is in
        let one : bit_at (2 ^ e) k ≡ 1 = ap (bit_at (2 ^ e)) (sym same) ∙ bit_at-pow_same e in
        grind (arith, bit_at_or s (2 ^ e) k, one, bit_at-lt s k)
    by false is =
        let zero_bit : bit_at (2 ^ e) k ≡ 0 = bit_at-pow_other e k
        (λ (same : k ≡ e). let t : (e == k) ≡ true = eq-eqb e k (sym same) in let never : true ≡ false = sym t
        ∙ is in cc) in
        grind (arith, bit_at_or s (2 ^ e) k, zero_bit, bit_at-lt s k)

-- a relation with one pair more depends on that pair too
depends_with : (r : List ℕ) (p : Pair) (inv event : ℕ) → p.inv < length r
    → depends (with_pair r p) inv event ≡ (depends r inv event || ((p.inv == inv) && (p.event == event)))
depends_with r p inv event within = by (p.inv == inv) refl
  where
    or_false : (b : Bool) → b ≡ (b || false)
    or_false true = refl
    or_false false = refl

    by : (b : Bool) → (p.inv == inv) ≡ b → depends (with_pair r p) inv event ≡
        (depends r inv event || (b && (p.event == event)))
    by true is =
        let same : p.inv ≡ inv = eqb-true p.inv inv is in
        let there : depended (with_pair r p) p.inv ≡ with_member (depended r p.inv) p.event =
        get_or-set_same r p.inv (with_member (depended r p.inv) p.event) 0 within in
        ap (λ i. depends (with_pair r p) i event) (sym same) ∙ ap (λ s. has s event) there
        ∙ has_with (depended r p.inv) p.event event ∙ ap (λ i. has (depended r i) event || (p.event == event)) same
    by false is =
        let there : depended (with_pair r p) inv ≡ depended r inv =
        get_or-set_other r p.inv inv (with_member (depended r p.inv) p.event) 0
        (λ (e : inv ≡ p.inv). let t : (p.inv == inv) ≡ true = eq-eqb p.inv inv (sym e) in
        let never : true ≡ false = sym t ∙ is in cc) in
        ap (λ s. has s event) there ∙ or_false (depends r inv event)

or_assoc : (a b c : Bool) → ((a || b) || c) ≡ (a || (b || c))
or_assoc true b c = refl
or_assoc false b c = refl

-- a relation with more pairs depends on those too
depends_more : (pairs : List Pair) (r : List ℕ) (inv event : ℕ) → length r ≡ 32
    → All (λ (p : Pair). (p.inv < 32) × (p.event < 64)) pairs
    → depends (fold with_pair r pairs) inv event ≡ (depends r inv event || is_given pairs inv event)
depends_more [] r inv event l all = by (depends r inv event)
  where
    by : (b : Bool) → b ≡ (b || false)
    by true = refl
    by false = refl
depends_more (p ∷ pairs) r inv event l all =
    depends_more pairs (with_pair r p) inv event (length-set r p.inv _ ∙ l)
    (λ k d within. all (suc k) d (suc-le-suc within))
    ∙ ap (λ b. b || is_given pairs inv event)
    (depends_with r p inv event (subst (λ (n : ℕ). p.inv < n) (sym l) (all 0 p (zero-lt-suc (length pairs))).0))
    ∙ or_assoc (depends r inv event) ((p.inv == inv) && (p.event == event)) (is_given pairs inv event)

pub zeros : (n place : ℕ) → let none : ℕ = 0 in get_or (replicate n none) place none ≡ none
zeros zero place = refl
zeros (suc n) zero = refl
zeros (suc n) (suc place) = zeros n place

-- the empty relation has no pair
depends_nothing : (inv event : ℕ) → depends (replicate 32 0) inv event ≡ false
depends_nothing inv event = ap (λ s. has s event) (zeros 32 inv) ∙ ap (λ b. b == 1) (bit_at-zero event)

-- a relation of pairs depends as they say
pub depends_given : (pairs : List Pair) (inv event : ℕ) → All (λ (p : Pair). (p.inv < 32) × (p.event < 64)) pairs
    → depends (relation_of pairs) inv event ≡ is_given pairs inv event
depends_given pairs inv event all = depends_more pairs (replicate 32 0) inv event refl all
    ∙ ap (λ b. b || is_given pairs inv event) (depends_nothing inv event)

-- a word has no member from 64 on
pub has_past : (word k : ℕ) → word < 2 ^ 64 → 64 ≤ k → has word k ≡ false
has_past word k fits past = let small : word < 2 ^ k = omega (arith, fits, pow_mono past) in
    rw (div-eq_of_lt small) refl
