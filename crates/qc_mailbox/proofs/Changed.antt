-- Trays that are changed one after another, each by whether its actor is up.
use Rattle.std.proofs.Common.{◌≡◌, ℕ, zero, suc, ◌+◌, ◌<◌, Bool, List, [], ◌∷◌, ◌++◌, length, get_or, map, set, take}
use Rattle.std.proofs.Common.{drop, ap, subst, ◌∙◌, arith}
use Rattle.qc_mailbox.specs.Vocabulary.{Tray, each_by_up}
use Rattle.qc_script.specs.Vocabulary.{is_up}
use Rattle.qc_mailbox.proofs.Each.{next}

-- the first ones are, and one more is
each_next : {A : Type 0} (f : A → Tray) (g : Bool → Tray → Tray) (up : List Bool) (olds xs : List A) (a : ℕ) (x d : A)
    → a < length olds
    → map f xs ≡ each_by_up g up (map f (take a olds)) ++ map f (drop a olds) → f x ≡ g (is_up up a) (f (get_or xs a d))
    → map f (set xs a x) ≡ each_by_up g up (map f (take (suc a) olds)) ++ map f (drop (suc a) olds)
each_next f g up [] xs a x d within is made = absurd (omega arith)
each_next f g up (o ∷ olds) [] zero x d within is made = absurd (let no : ⊥ = cc in no)
each_next f g [] (o ∷ olds) [] (suc a) x d within is made = absurd (let no : ⊥ = cc in no)
each_next f g (u ∷ up) (o ∷ olds) [] (suc a) x d within is made = absurd (let no : ⊥ = cc in no)
each_next f g [] (o ∷ olds) (y ∷ ys) zero x d within is made =
    let here : f y ≡ f o = cc in
    let rest : map f ys ≡ map f olds = cc in
    λ i. (made ∙ ap (g (is_up [] 0)) here) i ∷ rest i
each_next f g (u ∷ up) (o ∷ olds) (y ∷ ys) zero x d within is made =
    let here : f y ≡ f o = cc in
    let rest : map f ys ≡ map f olds = cc in
    λ i. (made ∙ ap (g u) here) i ∷ rest i
each_next f g [] (o ∷ olds) (y ∷ ys) (suc a) x d within is made =
    let here : f y ≡ g (is_up [] 0) (f o) = cc in
    let rest : map f ys ≡ each_by_up g [] (map f (take a olds)) ++ map f (drop a olds) = cc in
    λ i. here i ∷ each_next f g [] olds ys a x d (omega arith) rest made i
each_next f g (u ∷ up) (o ∷ olds) (y ∷ ys) (suc a) x d within is made =
    let here : f y ≡ g u (f o) = cc in
    let rest : map f ys ≡ each_by_up g up (map f (take a olds)) ++ map f (drop a olds) = cc in
    λ i. here i ∷ each_next f g up olds ys a x d (omega arith) rest made i

pub each_on : {A : Type 0} (f : A → Tray) (g : Bool → Tray → Tray) (up : List Bool) (olds xs : List A) (a : ℕ) (x d : A)
    → a < length olds
    → map f xs ≡ each_by_up g up (map f (take a olds)) ++ map f (drop a olds) → f x ≡ g (is_up up a) (f (get_or xs a d))
    → map f (set xs a x) ≡ each_by_up g up (map f (take (a + 1) olds)) ++ map f (drop (a + 1) olds)
each_on f g up olds xs a x d within is made =
    subst (λ n. map f (set xs a x) ≡ each_by_up g up (map f (take n olds)) ++ map f (drop n olds)) (next a)
    (each_next f g up olds xs a x d within is made)
