-- Where a list with one more at its end is cut: at that one, or before it.
use Rattle.std.proofs.Common.{◌≡◌, List, [], ◌∷◌, ◌++◌, refl, ◌∙◌, ap}

-- cut at an element

pub data CutAt {X : Type 0} (xs : List X) (x : X) (before : List X) (s : X) : Type 0 where
  at_end : before ≡ xs → s ≡ x → CutAt xs x before s
  inside : (rest : List X) → before ++ s ∷ rest ≡ xs → CutAt xs x before s

pub cut_at : {X : Type 0} (xs : List X) (x : X) (before later : List X) (s : X) → before ++ s ∷ later ≡ xs ++ x ∷ []
    → CutAt xs x before s
cut_at [] x [] later s is = at_end refl (cc is)
cut_at (y ∷ xs) x [] later s is = inside xs (ap (λ z. z ∷ xs) (cc is))
cut_at [] x (b ∷ []) later s is = absurd (cc is)
cut_at [] x (b ∷ c ∷ before) later s is = absurd (cc is)
cut_at {X = X} (y ∷ xs) x (b ∷ before) later s is = by (cc is) (cut_at xs x before later s (cc is))
  where
    by : b ≡ y → CutAt xs x before s → CutAt (y ∷ xs) x (b ∷ before) s
    by same (at_end whole this) = at_end (ap (λ z. z ∷ before) same ∙ ap (λ (l : List X). y ∷ l) whole) this
    by same (inside rest part) =
        inside rest (ap (λ z. z ∷ (before ++ s ∷ rest)) same ∙ ap (λ (l : List X). y ∷ l) part)

-- cut in two

pub data Front {X : Type 0} (xs : List X) (x : X) (before : List X) : Type 0 where
  all : before ≡ xs ++ x ∷ [] → Front xs x before
  less : (rest : List X) → before ++ rest ≡ xs → Front xs x before

last : {X : Type 0} (b x : X) (before later : List X) → b ≡ x → before ++ later ≡ [] → b ∷ before ≡ x ∷ []
last b x [] later same none = ap (λ z. z ∷ []) same
last b x (c ∷ before) later same none = absurd (cc none)

pub front : {X : Type 0} (xs : List X) (x : X) (before later : List X) → before ++ later ≡ xs ++ x ∷ []
    → Front xs x before
front xs x [] later is = less xs refl
front [] x (b ∷ before) later is = all (last b x before later (cc is) (cc is))
front {X = X} (y ∷ xs) x (b ∷ before) later is = by (cc is) (front xs x before later (cc is))
  where
    by : b ≡ y → Front xs x before → Front (y ∷ xs) x (b ∷ before)
    by same (all whole) = all (ap (λ z. z ∷ before) same ∙ ap (λ (l : List X). y ∷ l) whole)
    by same (less rest part) = less rest (ap (λ z. z ∷ (before ++ rest)) same ∙ ap (λ (l : List X). y ∷ l) part)
