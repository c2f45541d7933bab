-- What tests that are joined say of each, and each of them.
use Rattle.std.proofs.Common.{◌≡◌, ◌&&◌, Bool, true, false, refl, ◌⊎◌, inl, inr, true≢false, if◌then◌else◌, not, sym}
use Rattle.std.specs.Prelude.{◌||◌}

pub and_first : (x y : Bool) → (x && y) ≡ true → x ≡ true
and_first true y h = refl
and_first false y h = h

pub and_second : (x y : Bool) → (x && y) ≡ true → y ≡ true
and_second true y h = h
and_second false y h = absurd (let never : ⊥ = cc in never)

pub and_parts : (a b : Bool) → (a && b) ≡ true → (a ≡ true) × (b ≡ true)
and_parts true true e = (refl, refl)
and_parts true false e = absurd cc
and_parts false b e = absurd cc

pub and_false : (a : Bool) → (a && false) ≡ false
and_false true = refl
and_false false = refl

pub and_true : (x : Bool) → (x && true) ≡ x
and_true true = refl
and_true false = refl

pub or_true : (b : Bool) → (b || true) ≡ true
or_true true = refl
or_true false = refl

pub or_false : (b : Bool) → (b || false) ≡ b
or_false true = refl
or_false false = refl

pub or_first : (a b : Bool) → a ≡ true → (a || b) ≡ true
or_first true b e = refl
or_first false b e = absurd (let never : ⊥ = cc in never)

pub or_second : (a b : Bool) → b ≡ true → (a || b) ≡ true
or_second true b e = refl
or_second false b e = e

pub or_cases : (a b : Bool) → (a || b) ≡ true → (a ≡ true) ⊎ (b ≡ true)
or_cases true b e = inl refl
or_cases false b e = inr e

pub or_parts : (a b : Bool) → (a || b) ≡ false → (a ≡ false) × (b ≡ false)
or_parts true b e = absurd (true≢false e)
or_parts false b e = (refl, e)

pub if_two : {A : Type 0} (P : A → Type 0) (t : Bool) (x y : A) → P x → P y → P (if t then x else y)
if_two P true x y here there = here
if_two P false x y here there = there

pub not_both : (t : Bool) → t ≡ true → t ≡ false → ⊥
not_both t is other = let no : ⊥ = cc in no

pub not_false : (t : Bool) → not t ≡ false → t ≡ true
not_false true is = refl
not_false false is = sym is

pub not_turned : (told waits : Bool) → told ≡ not waits → not told ≡ waits
not_turned true true is = absurd (let never : ⊥ = cc in never)
not_turned true false is = refl
not_turned false true is = refl
not_turned false false is = absurd (let never : ⊥ = cc in never)
