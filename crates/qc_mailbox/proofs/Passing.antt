-- Who is passed over.
use Rattle.std.proofs.Common.{◌≡◌, ℕ, zero, suc, Bool, true, false, ◌||◌, List, [], ◌∷◌, refl}
use Rattle.qc_mailbox.specs.Vocabulary.{is_held, either}

pub held_either : (xs ys : List Bool) (a : ℕ) → is_held (either xs ys) a ≡ (is_held xs a || is_held ys a)
held_either [] ys a = refl
held_either (x ∷ xs) [] a = by (is_held (x ∷ xs) a)
  where
    by : (b : Bool) → b ≡ (b || false)
    by true = refl
    by false = refl
held_either (x ∷ xs) (y ∷ ys) zero = refl
held_either (x ∷ xs) (y ∷ ys) (suc a) = held_either xs ys a
