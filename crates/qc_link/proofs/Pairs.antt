-- A write at the place of a pair is seen at that pair alone.
use Rattle.std.proofs.Common.{◌≡◌, ◌⊎◌, inl, inr, ℕ, ◌+◌, ◌*◌, ◌<◌, ◌==◌, ◌&&◌, ◌||◌, not, Bool, true, false, cond, min}
use Rattle.std.proofs.Common.{max, List, length, set, get_or, refl, sym, ◌∙◌, ap, subst, arith, get_or-set_other}
use Rattle.std.proofs.Common.{get_or-set_same}
use Rattle.std.specs.Cmp.{both_ways}
use Rattle.std.proofs.lemmas.Bool.{eq-eqb, eqb-true, and_from}
use Rattle.qc_link.specs.Vocabulary.{is_cut, is_pair, most_actors, pair_place, with_cut, without_cut}
use Rattle.qc_list.proofs.Booleans.{and_parts, or_first, or_second, or_cases}

-- the places of two pairs are the same just where the pairs are

pair_at : (a b x y : ℕ) → is_pair a b x y ≡ true → (pair_place a b == pair_place x y) ≡ true
pair_at a b x y is = by (or_cases ((a == x) && (b == y)) ((a == y) && (b == x)) is) where
  by : (((a == x) && (b == y)) ≡ true) ⊎ (((a == y) && (b == x)) ≡ true) → (pair_place a b == pair_place x y) ≡ true
  by (inl straight) =
      let parts = and_parts (a == x) (b == y) straight in
      let first : a ≡ x = eqb-true a x parts.0 in
      let second : b ≡ y = eqb-true b y parts.1 in
      eq-eqb (pair_place a b) (pair_place x y) (λ i. pair_place (first i) (second i))
  by (inr crossed) =
      let parts = and_parts (a == y) (b == x) crossed in
      let first : a ≡ y = eqb-true a y parts.0 in
      let second : b ≡ x = eqb-true b x parts.1 in
      let turned : pair_place y x ≡ pair_place x y = omega arith in
      eq-eqb (pair_place a b) (pair_place x y) ((λ i. pair_place (first i) (second i)) ∙ turned)

at_pair : (a b x y : ℕ) → a < most_actors → b < most_actors → x < most_actors → y < most_actors
    → (pair_place a b == pair_place x y) ≡ true → is_pair a b x y ≡ true
at_pair a b x y al bl xl yl is = by (a == x) refl where
  same : pair_place a b ≡ pair_place x y
  same = eqb-true (pair_place a b) (pair_place x y) is

  crossed : (a ≡ x → ⊥) → is_pair a b x y ≡ true
  crossed apart =
      let places : most_actors * min a b + max a b ≡ most_actors * min x y + max x y = same in
      let first : a ≡ y = omega arith in
      let second : b ≡ x = omega arith in
      or_second ((a == x) && (b == y)) ((a == y) && (b == x))
      (and_from (a == y) (b == x) (eq-eqb a y first) (eq-eqb b x second))

  by : (t : Bool) → (a == x) ≡ t → is_pair a b x y ≡ true
  by true here =
      let first : a ≡ x = eqb-true a x here in
      let places : most_actors * min a b + max a b ≡ most_actors * min x y + max x y = same in
      let second : b ≡ y = omega arith in
      or_first ((a == x) && (b == y)) ((a == y) && (b == x)) (and_from (a == x) (b == y) here (eq-eqb b y second))
  by false here = crossed (λ e. let on : (a == x) ≡ true = eq-eqb a x e in let never : false ≡ true = sym here
      ∙ on in cc)

same_pair : (a b x y : ℕ) → a < most_actors → b < most_actors → x < most_actors → y < most_actors
    → (pair_place a b == pair_place x y) ≡ is_pair a b x y
same_pair a b x y al bl xl yl = both_ways (pair_place a b == pair_place x y) (is_pair a b x y)
    (at_pair a b x y al bl xl yl) (pair_at a b x y)

within : (a b : ℕ) → a < most_actors → b < most_actors → pair_place a b < most_actors * most_actors
within a b al bl = omega arith

-- what stands at a place after a write
written : (cuts : List Bool) (i j : ℕ) (v : Bool) → i < length cuts
    → get_or (set cuts i v) j false ≡ cond (i == j) v (get_or cuts j false)
written cuts i j v low = by (i == j) refl where
  by : (t : Bool) → (i == j) ≡ t → get_or (set cuts i v) j false ≡ cond t v (get_or cuts j false)
  by true is = let same : i ≡ j = eqb-true i j is in
      subst (λ k. get_or (set cuts i v) k false ≡ v) same (get_or-set_same cuts i v false low)
  by false is = get_or-set_other cuts i j v false
      (λ e. let on : (i == j) ≡ true = eq-eqb i j (sym e) in let never : false ≡ true = sym is ∙ on in cc)

cond_or : (t u : Bool) → cond t true u ≡ (t || u)
cond_or true u = refl
cond_or false u = refl

cond_and : (t u : Bool) → cond t false u ≡ (not t && u)
cond_and true u = refl
cond_and false u = refl

pub cuts_part_two_actors : (cuts : List Bool) (a b x y : ℕ) → length cuts ≡ most_actors * most_actors → a < most_actors
    → b < most_actors → x < most_actors → y < most_actors
    → is_cut (with_cut cuts a b) x y ≡ (is_pair a b x y || is_cut cuts x y)
cuts_part_two_actors cuts a b x y size al bl xl yl =
    let low : pair_place a b < length cuts = subst (λ n. pair_place a b < n) (sym size) (within a b al bl) in
    written cuts (pair_place a b) (pair_place x y) true low
    ∙ cond_or (pair_place a b == pair_place x y) (is_cut cuts x y)
    ∙ ap (λ t. t || is_cut cuts x y) (same_pair a b x y al bl xl yl)

pub heals_join_two_actors : (cuts : List Bool) (a b x y : ℕ) → length cuts ≡ most_actors * most_actors → a < most_actors
    → b < most_actors → x < most_actors → y < most_actors
    → is_cut (without_cut cuts a b) x y ≡ (not (is_pair a b x y) && is_cut cuts x y)
heals_join_two_actors cuts a b x y size al bl xl yl =
    let low : pair_place a b < length cuts = subst (λ n. pair_place a b < n) (sym size) (within a b al bl) in
    written cuts (pair_place a b) (pair_place x y) false low
    ∙ cond_and (pair_place a b == pair_place x y) (is_cut cuts x y)
    ∙ ap (λ t. not t && is_cut cuts x y) (same_pair a b x y al bl xl yl)
