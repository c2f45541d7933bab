-- How large the number is that a few digits write.
use Rattle.std.proofs.Common.{◌≡◌, ◌≢◌, ℕ, zero, suc, ◌+◌, ◌-◌, ◌*◌, ◌<◌, ◌≤◌, Bool, true, false, List, Some, None}
use Rattle.std.proofs.Common.{Result, Ok, Err, length, get_or, refl, sym, ap, subst, ◌∙◌, arith}
use Rattle.std.specs.List.{list_all}
use Rattle.std.specs.Prelude.{◌==◌, ◌&&◌, nat_le, if◌then◌else◌, OkIff}
use Rattle.std.specs.Result.{result_ok}
use Rattle.std.proofs.lemmas.Bool.{leb-true, leb-false, le-leb, eqb-false}
use Rattle.std.proofs.lemmas.List.Folds.{list_all_at}
use Rattle.qc_decl.specs.Vocabulary.{greatest_threshold, is_between}
use Rattle.qc_number.specs.Vocabulary.{most_digits}
use Rattle.qc_accept.specs.Vocabulary.{number_in, value_of}

-- the first number that so many digits can't write
abbrev pub limit : ℕ → ℕ
limit zero = 1
limit (suc n) = 10 * limit n

some : (n : ℕ) → 1 ≤ limit n
some zero = omega arith
some (suc n) = let h : 1 ≤ limit n = some n in omega arith

up : (n m : ℕ) → n ≤ m → limit n ≤ limit m
up zero m l = some m
up (suc n) zero l = absurd (omega arith)
up (suc n) (suc m) l = let h : limit n ≤ limit m = up n m (omega arith) in omega arith

-- five digits write less than 100,000
pub few_small : (n v : ℕ) → n ≤ most_digits → v < limit n → v < 100000
few_small n v l h = let k : limit n ≤ 100000 = up n 5 l in omega arith

-- one digit more
pub digit_more : (n v d : ℕ) → v < limit n → d ≤ 57 → 10 * v + (d - 48) < limit (n + 1)
digit_more n v d h l = let next : suc n ≡ n + 1 = omega arith in
    subst (λ k. 10 * v + (d - 48) < limit k) next (let m : 10 * v + (d - 48) < 10 * limit n = omega arith in m)

-- a digit is at most 57
pub digit_at : (digits : List ℕ) (i : ℕ) → i < length digits → list_all (is_between 48 57) digits ≡ true
    → get_or digits i 0 ≤ 57
digit_at digits i l all = by (is_between 48 57 (get_or digits i 0)) refl
  where
    right : (a b : Bool) → (a && b) ≡ true → b ≡ true
    right true b e = e
    right false b e = absurd (let never : ⊥ = cc in never)

    by : (t : Bool) → is_between 48 57 (get_or digits i 0) ≡ t → get_or digits i 0 ≤ 57
    by true e = leb-true _ 57 (right (nat_le 48 (get_or digits i 0)) (nat_le (get_or digits i 0) 57) e)
    by false e = absurd (let other : list_all (is_between 48 57) digits ≡ false =
        list_all_at (is_between 48 57) digits i 0 l e in let never : ⊥ = cc in never)

-- what a conversion of a digits' value to 16 bits answers is the number that the digits write
pub read_number : {E : Type 0} (text : List ℕ) (v : ℕ) (r : Result ℕ E) → (length text == 0) ≡ false → length text ≤ 5
    → list_all (is_between 48 57) text ≡ true → v ≡ value_of text
    → OkIff r (v < 65536) v → result_ok r ≡ number_in text
read_number {E = E} text v r some few all is h = by r (nat_le (value_of text) greatest_threshold) refl h
  where
    long : is_between 1 5 (length text) ≡ true
    long = rw (
      le-leb 1 (length text) (let n : length text ≢ 0 = eqb-false _ 0 some in omega arith),
      le-leb (length text) 5 few,
    )

    by_value : (b : Bool) → nat_le (value_of text) greatest_threshold ≡ b
        → number_in text ≡ (if b then Some (value_of text) else None)
    by_value b e =
        ap (λ t. if t && (list_all (is_between 48 57) text && nat_le (value_of text) greatest_threshold) then Some
        (value_of text) else None) long
        ∙ ap (λ t. if t && nat_le (value_of text) greatest_threshold then Some (value_of text) else None) all
        ∙ ap (λ t. if t then Some (value_of text) else None) e

    by : (r : Result ℕ E) (b : Bool) → nat_le (value_of text) greatest_threshold ≡ b → OkIff r (v < 65536) v
        → result_ok r ≡ number_in text
    by (Ok x) true e h = ap Some (h.1 ∙ is) ∙ sym (by_value true e)
    by (Ok x) false e h =
        let over : greatest_threshold < value_of text = leb-false _ greatest_threshold e in
        let same : greatest_threshold < v = subst (λ n. greatest_threshold < n) (sym is) over in
        absurd (omega (arith, h.0))
    by (Err y) true e h =
        let under : value_of text ≤ greatest_threshold = leb-true _ greatest_threshold e in
        let same : v ≤ greatest_threshold = subst (λ n. n ≤ greatest_threshold) (sym is) under in
        absurd (h (omega arith))
    by (Err y) false e h = sym (by_value false e)
