-- Two lists with the same elements, one of which ends with one more.
use Rattle.std.proofs.Common.{◌≡◌, ◌⊎◌, List, [], ◌∷◌, ◌++◌, inl, inr, refl, sym}

pub snoc_same : {A : Type 0} (xs ys : List A) (x y : A) → xs ++ x ∷ [] ≡ ys ++ y ∷ [] → (xs ≡ ys) × (x ≡ y)
snoc_same [] [] x y is = (refl, (let same : x ≡ y = cc in same))
snoc_same [] (z ∷ []) x y is = absurd (let never : ⊥ = cc in never)
snoc_same [] (z ∷ w ∷ ys) x y is = absurd (let never : ⊥ = cc in never)
snoc_same (z ∷ []) [] x y is = absurd (let never : ⊥ = cc in never)
snoc_same (z ∷ w ∷ xs) [] x y is = absurd (let never : ⊥ = cc in never)
snoc_same (z ∷ xs) (w ∷ ys) x y is =
    let first : z ≡ w = cc in
    let rest : xs ++ x ∷ [] ≡ ys ++ y ∷ [] = cc in
    let more = snoc_same xs ys x y rest in
    ((λ i. first i ∷ more.0 i), more.1)

none_both : {A : Type 0} (xs ys : List A) → xs ++ ys ≡ [] → (xs ≡ []) × (ys ≡ [])
none_both [] ys is = (refl, is)
none_both (x ∷ xs) ys is = absurd (let never : ⊥ = cc in never)

-- the last one is the second's, or the second has none, and it is the first's
pub snoc_split : {A : Type 0} (xs ys prior : List A) (e : A) → xs ++ ys ≡ prior ++ e ∷ []
    → ((ys ≡ []) × (xs ≡ prior ++ e ∷ [])) ⊎ ((m : List A) × (prior ≡ xs ++ m) × (ys ≡ m ++ e ∷ []))
snoc_split [] ys prior e is = inr (prior, refl, is)
snoc_split (x ∷ xs) ys [] e is =
    let same : x ≡ e = cc in
    let rest : xs ++ ys ≡ [] = cc in
    let none = none_both xs ys rest in
    inl (none.1, (λ i. same i ∷ none.0 i))
snoc_split (x ∷ xs) ys (z ∷ prior) e is =
    let same : x ≡ z = cc in
    let rest : xs ++ ys ≡ prior ++ e ∷ [] = cc in
    elim (snoc_split xs ys prior e rest) [
      | inl (none, all) ↦ inl (none, (λ i. same i ∷ all i))
      | inr (m, front, back) ↦ inr (m, (λ i. (sym same) i ∷ front i), back)
    ]
