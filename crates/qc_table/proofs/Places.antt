-- Where a list has no element that passes a test.
use Rattle.std.proofs.Common.{◌≡◌, ◌+◌, ◌<◌, ◌≤◌, Bool, true, false, not, cond, ltb, List, [], ◌∷◌, Some, None, length}
use Rattle.std.proofs.Common.{refl, suc, arith}
use Rattle.std.specs.Prelude.{◌||◌, position}
use Rattle.std.specs.List.{list_any, position_or_len}
use Rattle.std.proofs.lemmas.Bool.{ltb-false}

-- an element that passes has a place
any_within : {X : Type 0} (p : X → Bool) (xs : List X) → list_any p xs ≡ true → position_or_len p xs < length xs
any_within p [] h = absurd (let never : ⊥ = cc in never)
any_within p (x ∷ xs) h = by (p x) h (any_within p xs)
  where
    by : (b : Bool) → (b || list_any p xs) ≡ true → (list_any p xs ≡ true → position_or_len p xs < length xs)
        → cond (not b) (1 + position_or_len p xs) 0 < suc (length xs)
    by true h more = omega arith
    by false h more = let within : position_or_len p xs < length xs = more h in omega arith

-- so without a place none passes
pub position_none : {X : Type 0} (p : X → Bool) (xs : List X) → position p xs ≡ None → list_any p xs ≡ false
position_none {X = X} p xs none = by (list_any p xs) refl
  where
    placed : (b : Bool) → ltb (position_or_len p xs) (length xs) ≡ b → cond b (Some (position_or_len p xs)) None ≡ None
        → position_or_len p xs < length xs → ⊥
    placed true t e l = absurd (let never : ⊥ = cc in never)
    placed false t e l = let past : length xs ≤ position_or_len p xs = ltb-false _ _ t in omega arith

    by : (b : Bool) → list_any p xs ≡ b → b ≡ false
    by true h = absurd (placed (ltb (position_or_len p xs) (length xs)) refl none (any_within p xs h))
    by false h = refl
