-- Counts of messages, by pairs of actors, and lists with one item changed.
use Rattle.std.proofs.Common.{◌≡◌, ℕ, zero, suc, replicate, ◌+◌, ◌*◌, ◌<◌, ◌==◌, Bool, true, false, if◌then◌else◌, List}
use Rattle.std.proofs.Common.{length, get_or, set, refl, ap, sym, subst, ◌∙◌, arith}
use Rattle.std.proofs.lemmas.Bool.{eq-eqb, eqb-false, eqb-true}
use Rattle.std.proofs.lemmas.List.{get_or-set_other, get_or-set_same}
use Rattle.qc_script.specs.Vocabulary.{count_of, one_more}
use Rattle.qc_mailbox.specs.Vocabulary.{AreFew, Tally, count, one_message_more, place}
use Rattle.qc_link.specs.Vocabulary.{most_actors}

-- what stands at a place after a write

pub at_set : {A : Type 0} (xs : List A) (k j : ℕ) (x d : A) → k < length xs
    → get_or (set xs k x) j d ≡ (if k == j then x else get_or xs j d)
at_set {A} xs k j x d within = by (k == j) refl
  where
    by : (t : Bool) → (k == j) ≡ t → get_or (set xs k x) j d ≡ (if t then x else get_or xs j d)
    by true is = subst (λ (n : ℕ). get_or (set xs k x) n d ≡ x) (eqb-true k j is) (get_or-set_same xs k x d within)
    by false is = get_or-set_other xs k j x d (λ e. eqb-false k j is (sym e))

pub more_of : (xs : List ℕ) (k j : ℕ) → k < length xs
    → count_of (one_more xs k) j ≡ (if k == j then count_of xs j + 1 else count_of xs j)
more_of xs k j within = at_set xs k j (count_of xs k + 1) 0 within ∙ by (k == j) refl
  where
    by : (t : Bool) → (k == j) ≡ t → (if t then count_of xs k + 1 else count_of xs j) ≡
        (if t then count_of xs j + 1 else count_of xs j)
    by true is = ap (λ (n : ℕ). count_of xs n + 1) (eqb-true k j is)
    by false is = refl

-- places of pairs

pub place_within : (from to : ℕ) → from < most_actors → to < most_actors → place from to < most_actors * most_actors
place_within from to from_within to_within = omega arith

same_place : (a b x y : ℕ) → b < most_actors → y < most_actors
    → (place a b == place x y) ≡ (if a == x then b == y else false)
same_place a b x y b_within y_within = by (a == x) refl (place a b == place x y) refl
  where
    by : (s : Bool) → (a == x) ≡ s → (t : Bool) → (place a b == place x y) ≡ t → t ≡ (if s then b == y else false)
    by true first true same =
        let firsts : a ≡ x = eqb-true a x first in
        let places : most_actors * a + b ≡ most_actors * x + y = eqb-true (place a b) (place x y) same in
        let seconds : b ≡ y = omega arith in
        sym (eq-eqb b y seconds)
    by true first false other = inner (b == y) refl
      where
        inner : (u : Bool) → (b == y) ≡ u → false ≡ u
        inner true second =
            let on : (place a b == place x y) ≡ true =
            eq-eqb (place a b) (place x y) (λ i. place (eqb-true a x first i) (eqb-true b y second i)) in
            sym other ∙ on
        inner false second = refl
    by false first true same =
        let places : most_actors * a + b ≡ most_actors * x + y = eqb-true (place a b) (place x y) same in
        let firsts : a ≡ x = omega arith in
        absurd (eqb-false a x first firsts)
    by false first false other = refl

pub count_more : (t : Tally) (a b x y : ℕ) → length t.each ≡ most_actors * most_actors → a < most_actors
    → b < most_actors → y < most_actors
    → count (one_message_more t a b) x y ≡ (if (if a == x then b == y else false) then count t x y + 1 else count t x y)
count_more t a b x y long a_within b_within y_within =
    more_of t.each (place a b) (place x y) (subst (λ (n : ℕ). place a b < n) (sym long)
    (place_within a b a_within b_within))
    ∙ ap (λ (same : Bool). if same then count t x y + 1 else count t x y) (same_place a b x y b_within y_within)

-- no count is above that of all

pub few_none : (n : ℕ) → AreFew (replicate n 0) 0
few_none zero k = omega arith
few_none (suc n) zero = omega arith
few_none (suc n) (suc k) = few_none n k
