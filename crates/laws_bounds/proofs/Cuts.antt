-- Where two lists in a row are cut at an element: in the first, or in the second.
use Rattle.std.proofs.Common.{◌≡◌, List, [], ◌∷◌, ◌++◌, refl, ◌∙◌, ap}
use Rattle.std.specs.List.{AllByRecursion as Every}

pub data CutIn {X : Type 0} (xs ys before later : List X) (s : X) : Type 0 where
  in_first : (rest : List X) → before ++ s ∷ rest ≡ xs → CutIn xs ys before later s
  in_second : (front : List X) → before ≡ xs ++ front → front ++ s ∷ later ≡ ys → CutIn xs ys before later s

pub cut_in : {X : Type 0} (xs ys before later : List X) (s : X) → before ++ s ∷ later ≡ xs ++ ys
    → CutIn xs ys before later s
cut_in [] ys before later s is = in_second before refl is
cut_in (x ∷ xs) ys [] later s is = in_first xs (ap (λ z. z ∷ xs) (cc is))
cut_in {X = X} (x ∷ xs) ys (b ∷ before) later s is = by (cc is) (cut_in xs ys before later s (cc is))
  where
    by : b ≡ x → CutIn xs ys before later s → CutIn (x ∷ xs) ys (b ∷ before) later s
    by same (in_first rest part) =
        in_first rest (ap (λ z. z ∷ (before ++ s ∷ rest)) same ∙ ap (λ (l : List X). x ∷ l) part)
    by same (in_second front whole part) =
        in_second front (ap (λ z. z ∷ before) same ∙ ap (λ (l : List X). x ∷ l) whole) part

-- an empty list has no element, and a list of one is cut at that
pub none_cut : {X : Type 0} (before later : List X) (s : X) → before ++ s ∷ later ≡ [] → ⊥
none_cut [] later s is = cc is
none_cut (b ∷ before) later s is = cc is

pub record IsTheOne {X : Type 0} (x : X) (before : List X) (s : X) : Type 0 where
  pub before_is : before ≡ []
  pub this : s ≡ x

pub the_one : {X : Type 0} (x : X) (before later : List X) (s : X) → before ++ s ∷ later ≡ x ∷ []
    → IsTheOne x before s
the_one x [] later s is = record { before_is = refl; this = cc is }
the_one x (b ∷ before) later s is = absurd (none_cut before later s (cc is))

-- what holds of all of a list holds where it is cut, and of its front

pub every_at_cut : {X : Type 0} (P : X → Type 0) (before later : List X) (s : X) → Every P (before ++ s ∷ later) → P s
every_at_cut P [] later s all = all.0
every_at_cut P (b ∷ before) later s all = every_at_cut P before later s all.1
