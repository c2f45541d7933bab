-- The first rule that is for a message is the first of the first ones of eight patterns.
use Rattle.std.proofs.Common.{◌≡◌, ℕ, suc, ◌<◌, ◌≤◌, ◌&&◌, ◌||◌, Bool, true, false, cond, min, List, [], ◌∷◌, length}
use Rattle.std.proofs.Common.{get_or, Option, Some, None, refl, sym, ◌∙◌, ap, subst, arith, nat_eq}
use Rattle.std.specs.Option.{option_eq, option_map}
use Rattle.qc_link.specs.declared.plan.Link.{Link}
use Rattle.qc_link.specs.declared.rule.Fate.TheVariants.{Pass}
use Rattle.qc_link.specs.Vocabulary.{by_rules, fate_of, first, has_pattern, is_for, matches, place}

-- the first of either kind

pub first_or : (p q : Link → Bool) (links : List Link)
    → min (first p links) (first q links) ≡ first (λ l. p l || q l) links
first_or p q [] = omega arith
first_or p q (l ∷ links) = by (p l) (q l) (first_or p q links) where
  by : (s t : Bool) → min (first p links) (first q links) ≡ first (λ l. p l || q l) links
      → min (cond s 0 (suc (first p links))) (cond t 0 (suc (first q links))) ≡ cond (s || t) 0
      (suc (first (λ l. p l || q l) links))
  by true true rest = omega arith
  by true false rest = omega arith
  by false true rest = omega arith
  by false false rest = omega arith

first_same : (p q : Link → Bool) → ((l : Link) → p l ≡ q l) → (links : List Link) → first p links ≡ first q links
first_same p q same [] = refl
first_same p q same (l ∷ links) = ap (λ t. cond t 0 (suc (first p links))) (same l)
    ∙ ap (λ n. cond (q l) 0 (suc n)) (first_same p q same links)

-- what a rule names is left open, or is the number

open_or : (o : Option ℕ) (n : ℕ) → (option_eq nat_eq None o || option_eq nat_eq (Some n) o) ≡ matches o n
open_or None n = refl
open_or (Some m) n = refl

last_or : (a c d : Bool) → ((a && c) || (a && d)) ≡ (a && (c || d))
last_or true c d = refl
last_or false c d = refl

middle_or : (a b c d : Bool) → (((a && c) && b) || ((a && d) && b)) ≡ ((a && (c || d)) && b)
middle_or true b true d = by b d where
  by : (b d : Bool) → (b || (d && b)) ≡ b
  by true d = refl
  by false true = refl
  by false false = refl
middle_or true b false d = refl
middle_or false b c d = refl

front_or : (a b c d : Bool) → (((c && a) && b) || ((d && a) && b)) ≡ (((c || d) && a) && b)
front_or a b true d = by (a && b) ((d && a) && b) (swallowed a b d) where
  swallowed : (a b d : Bool) → ((a && b) || ((d && a) && b)) ≡ (a && b)
  swallowed true true d = refl
  swallowed true false true = refl
  swallowed true false false = refl
  swallowed false b true = refl
  swallowed false b false = refl

  by : (x y : Bool) → (x || y) ≡ x → (x || y) ≡ x
  by x y h = h
front_or a b false d = refl

pub first_ordinal : (from to : Option ℕ) (ordinal : ℕ) (links : List Link)
    → min (first (has_pattern (from, to, None)) links) (first (has_pattern (from, to, Some ordinal)) links) ≡ first
    (λ l. (option_eq nat_eq from l.from && option_eq nat_eq to l.to) && matches l.ordinal ordinal) links
first_ordinal from to ordinal links =
    first_or (has_pattern (from, to, None)) (has_pattern (from, to, Some ordinal)) links
    ∙ first_same _ _ (λ l. last_or (option_eq nat_eq from l.from && option_eq nat_eq to l.to)
    (option_eq nat_eq None l.ordinal) (option_eq nat_eq (Some ordinal) l.ordinal)
    ∙ ap (λ t. (option_eq nat_eq from l.from && option_eq nat_eq to l.to) && t) (open_or l.ordinal ordinal)) links

pub first_receiver : (from : Option ℕ) (to ordinal : ℕ) (links : List Link)
    → min (first (λ l. (option_eq nat_eq from l.from && option_eq nat_eq None l.to) && matches l.ordinal ordinal) links)
    (first (λ l. (option_eq nat_eq from l.from && option_eq nat_eq (Some to) l.to) && matches l.ordinal ordinal)
    links)
    ≡ first (λ l. (option_eq nat_eq from l.from && matches l.to to) && matches l.ordinal ordinal) links
first_receiver from to ordinal links =
    first_or (λ l. (option_eq nat_eq from l.from && option_eq nat_eq None l.to) && matches l.ordinal ordinal)
    (λ l. (option_eq nat_eq from l.from && option_eq nat_eq (Some to) l.to) && matches l.ordinal ordinal) links
    ∙ first_same _ _ (λ l. middle_or (option_eq nat_eq from l.from) (matches l.ordinal ordinal)
    (option_eq nat_eq None l.to) (option_eq nat_eq (Some to) l.to)
    ∙ ap (λ t. (option_eq nat_eq from l.from && t) && matches l.ordinal ordinal) (open_or l.to to)) links

pub first_sender : (from to ordinal : ℕ) (links : List Link)
    → min (first (λ l. (option_eq nat_eq None l.from && matches l.to to) && matches l.ordinal ordinal) links)
    (first (λ l. (option_eq nat_eq (Some from) l.from && matches l.to to) && matches l.ordinal ordinal) links)
    ≡ first (is_for from to ordinal) links
first_sender from to ordinal links =
    first_or (λ l. (option_eq nat_eq None l.from && matches l.to to) && matches l.ordinal ordinal)
    (λ l. (option_eq nat_eq (Some from) l.from && matches l.to to) && matches l.ordinal ordinal) links
    ∙ first_same _ _ (λ l. front_or (matches l.to to) (matches l.ordinal ordinal) (option_eq nat_eq None l.from)
    (option_eq nat_eq (Some from) l.from)
    ∙ ap (λ t. (t && matches l.to to) && matches l.ordinal ordinal) (open_or l.from from)) links

-- the first place, looked up

found_by : (t : Bool) (o : Option ℕ) (k n : ℕ) → ((m : ℕ) → o ≡ Some m → m ≡ k)
    → cond t (Some 0) (option_map suc o) ≡ Some n → n ≡ cond t 0 (suc k)
found_by true o k n rest is = cc
found_by false None k n rest is = absurd (cc)
found_by false (Some m) k n rest is = let later : m ≡ k = rest m refl in let here : suc m ≡ n = cc in sym here
    ∙ ap suc later

pub first_found : (test : Link → Bool) (links : List Link) (n : ℕ) → place test links ≡ Some n → n ≡ first test links
first_found test [] n is = absurd (cc)
first_found test (l ∷ links) n is = found_by (test l) (place test links) (first test links) n
    (λ m rest. first_found test links m rest) is

none_by : (t : Bool) (o : Option ℕ) (k size : ℕ) → (o ≡ None → size ≡ k) → cond t (Some 0) (option_map suc o) ≡ None
    → suc size ≡ cond t 0 (suc k)
none_by true o k size rest is = absurd (cc)
none_by false None k size rest is = ap suc (rest refl)
none_by false (Some m) k size rest is = absurd (cc)

pub first_none : (test : Link → Bool) (links : List Link) → place test links ≡ None → length links ≡ first test links
first_none test [] is = refl
first_none test (l ∷ links) is = none_by (test l) (place test links) (first test links) (length links)
    (λ rest. first_none test links rest) is

-- the rule at the first place decides

pub decided : (from to ordinal : ℕ) (links : List Link) (n : ℕ) (x : Link) → n ≡ first (is_for from to ordinal) links
    → n < length links → x ≡ get_or links n x → fate_of x.rule ≡ by_rules links from to ordinal
decided from to ordinal links n x is low read =
    go links x (subst (λ k. k < length links) is low) (subst (λ k. x ≡ get_or links k x) is read) where
      go : (links : List Link) (x : Link) → first (is_for from to ordinal) links < length links
          → x ≡ get_or links (first (is_for from to ordinal) links) x → fate_of x.rule ≡ by_rules links from to ordinal
      go [] x low read = absurd (omega arith)
      go (l ∷ links) x low read = by (is_for from to ordinal l) (go links x) low read where
        by : (t : Bool) → (first (is_for from to ordinal) links < length links
            → x ≡ get_or links (first (is_for from to ordinal) links) x
            → fate_of x.rule ≡ by_rules links from to ordinal)
            → cond t 0 (suc (first (is_for from to ordinal) links)) < length (l ∷ links)
            → x ≡ get_or (l ∷ links) (cond t 0 (suc (first (is_for from to ordinal) links))) x
            → fate_of x.rule ≡ cond t (fate_of l.rule) (by_rules links from to ordinal)
        by true rest low read = ap (λ (y : Link). fate_of y.rule) read
        by false rest low read = rest (omega arith) read

pub undecided : (from to ordinal : ℕ) (links : List Link) → length links ≤ first (is_for from to ordinal) links
    → Pass ≡ by_rules links from to ordinal
undecided from to ordinal [] past = refl
undecided from to ordinal (l ∷ links) past = by (is_for from to ordinal l) past (undecided from to ordinal links) where
  by : (t : Bool) → length (l ∷ links) ≤ cond t 0 (suc (first (is_for from to ordinal) links))
      → (length links ≤ first (is_for from to ordinal) links → Pass ≡ by_rules links from to ordinal)
      → Pass ≡ cond t (fate_of l.rule) (by_rules links from to ordinal)
  by true past rest = absurd (omega arith)
  by false past rest = rest (omega arith)
