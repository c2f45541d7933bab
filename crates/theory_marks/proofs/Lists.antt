-- Lists: filters of with_arrivals lists, fronts, functions with a new value at one place.
use Rattle.std.proofs.Common.{◌≡◌, ℕ, ◌≤◌, ◌==◌, List, [], ◌∷◌, ◌++◌, length, drop, refl, ap, ◌∙◌, arith}
use Rattle.qc_entry.specs.declared.line.Line.{Line}
use Rattle.qc_entry.specs.Vocabulary.{of_object}
use Rattle.std.proofs.lemmas.List.Elements.{filter-append}

pub of-append : (xs ys : List Line) (o : ℕ) → of_object (xs ++ ys) o ≡ of_object xs o ++ of_object ys o
of-append xs ys o = filter-append (λ l. l.object == o) xs ys

-- of two fronts of one list the longer one begins with the shorter one
pub fronts : {A : Type 0} (xs a ys b : List A) → xs ++ a ≡ ys ++ b → length xs ≤ length ys
    → xs ++ drop (length xs) ys ≡ ys
fronts [] a ys b e l = refl
fronts (x ∷ xs) a [] b e l = absurd (omega arith)
fronts {A = A} (x ∷ xs) a (y ∷ ys) b e l =
    let h : x ≡ y = cc in
    let t : xs ++ a ≡ ys ++ b = cc in
    let le : length xs ≤ length ys = omega arith in
    ap (λ (z : A). z ∷ xs ++ drop (length xs) ys) h ∙ ap (λ (zs : List A). y ∷ zs) (fronts xs a ys b t le)
