-- Elements of a list by their places.
use Rattle.std.proofs.Common.{◌≡◌, ℕ, zero, suc, ◌<◌, List, [], ◌∷◌, ◌++◌, length, Some, slice_get, refl, ap, arith}
use Rattle.std.specs.Prelude.{replicate}

-- what is there stays there, where the list goes on

pub slice_get-last : {X : Type 0} (xs : List X) (x : X) → slice_get (xs ++ x ∷ []) (length xs) ≡ Some x
slice_get-last [] x = refl
slice_get-last (y ∷ xs) x = slice_get-last xs x

-- the same at each place

pub replicate_within : {X : Type 0} (n a : ℕ) (x y : X) → slice_get (replicate n x) a ≡ Some y → a < n
replicate_within zero a x y is = absurd (let never : ⊥ = cc in never)
replicate_within (suc n) zero x y is = omega arith
replicate_within (suc n) (suc a) x y is = let within : a < n = replicate_within n a x y is in omega arith

-- lengths

pub length-replicate : {X : Type 0} (n : ℕ) (x : X) → length (replicate n x) ≡ n
length-replicate zero x = refl
length-replicate (suc n) x = ap suc (length-replicate n x)
