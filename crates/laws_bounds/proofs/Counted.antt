-- Numbers below one that are visited, each once, are all of them in the end.
use Rattle.std.proofs.Common.{◌≡◌, ℕ, zero, suc, ◌+◌, ◌<◌, ◌≤◌, ◌==◌, nat_lt, Bool, true, false, cond, if◌then◌else◌}
use Rattle.std.proofs.Common.{refl, sym, ap, ◌∙◌, subst, arith}
use Rattle.std.proofs.lemmas.Bool.{eq-eqb, eqb-true, ltb-true}
use Rattle.qc_promise.specs.Vocabulary.{total_below}
use Rattle.laws_bounds.specs.Vocabulary.{nobody, visits_below, with_visit}
use Rattle.laws_bounds.proofs.Sums.{total_more, zeros}
use Rattle.qc_list.proofs.Numbers.{is_last}

pub visit_here : (a : ℕ) (visited : ℕ → Bool) → with_visit visited a a ≡ true
visit_here a visited = rw (eq-eqb a a refl) refl

pub visit_other : (a b : ℕ) (visited : ℕ → Bool) → (a == b) ≡ false → with_visit visited a b ≡ visited b
visit_other a b visited other = rw other refl

pub visit_stays : (a b : ℕ) (visited : ℕ → Bool) → visited b ≡ true → with_visit visited a b ≡ true
visit_stays a b visited was = by (a == b)
  where
    by : (t : Bool) → (if t then true else visited b) ≡ true
    by true = refl
    by false = was

-- a term of each that was visited, and one visit more
pub more_visited : (n a : ℕ) (visited : ℕ → Bool) (f : ℕ → ℕ) → a < n → visited a ≡ false
    → total_below n (λ b. cond (with_visit visited a b) (f b) 0) ≡ total_below n (λ b. cond (visited b) (f b) 0) + f a
more_visited n a visited f low new =
    total_more n a (f a) (λ b. cond (visited b) (f b) 0) (λ b. cond (with_visit visited a b) (f b) 0) low here other
  where
    here : cond (with_visit visited a a) (f a) 0 ≡ cond (visited a) (f a) 0 + f a
    here = rw (visit_here a visited) (rw new (omega arith))

    other : (b : ℕ) → (a == b) ≡ false → cond (with_visit visited a b) (f b) 0 ≡ cond (visited b) (f b) 0
    other b is = ap (λ (t : Bool). cond t (f b) 0) (visit_other a b visited is)

pub none_visited : (n : ℕ) → visits_below n nobody ≡ 0
none_visited n = zeros n

pub one_visited : (n a : ℕ) (visited : ℕ → Bool) → a < n → visited a ≡ false
    → visits_below n (with_visit visited a) ≡ visits_below n visited + 1
one_visited n a visited low new = more_visited n a visited (λ b. 1) low new

one_at_most : (t : Bool) → cond t 1 0 ≤ 1
one_at_most true = omega arith
one_at_most false = omega arith

pub most_visited : (n : ℕ) (visited : ℕ → Bool) → visits_below n visited ≤ n
most_visited zero visited = omega arith
most_visited (suc n) visited = omega (arith, most_visited n visited, one_at_most (visited n))

is_one : (t : Bool) (k : ℕ) → cond t 1 0 ≡ k → k ≡ 1 → t ≡ true
is_one true k is one = refl
is_one false k is one = absurd (omega (arith, is, one))

pub all_visited : (n a : ℕ) (visited : ℕ → Bool) → visits_below n visited ≡ n → a < n → visited a ≡ true
all_visited zero a visited all low = absurd (omega (arith, low))
all_visited (suc n) a visited all low =
    by (λ below. all_visited n a visited (omega (arith, all, most, one)) below) (nat_lt a n) refl
  where
    most : visits_below n visited ≤ n
    most = most_visited n visited

    one : cond (visited n) 1 0 ≤ 1
    one = one_at_most (visited n)

    by : (a < n → visited a ≡ true) → (t : Bool) → nat_lt a n ≡ t → visited a ≡ true
    by ih true is = ih (ltb-true a n is)
    by ih false is =
        subst (λ (k : ℕ). visited k ≡ true) (sym (is_last a n is low))
        (is_one (visited n) (cond (visited n) 1 0) refl (omega (arith, all, most, one)))

-- what holds of each that was visited, and of one more
pub each_visited : (P : ℕ → Type 0) (visited : ℕ → Bool) (a : ℕ) → P a → ((b : ℕ) → visited b ≡ true → P b) → (b : ℕ)
    → with_visit visited a b ≡ true → P b
each_visited P visited a here was b is = by (a == b) refl
  where
    by : (c : Bool) → (a == b) ≡ c → P b
    by true this = subst P (eqb-true a b this) here
    by false other = was b (sym (visit_other a b visited other) ∙ is)
