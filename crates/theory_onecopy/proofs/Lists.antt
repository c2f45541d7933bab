-- Members of joined lists, and ordered lists.
use Rattle.std.proofs.Common.{◌≡◌, ◌⊎◌, inl, inr, List, [], ◌∷◌, ◌++◌, map, refl, sym, ◌∙◌, subst}
use Rattle.qc_list.proofs.Members.{In-first, In-second, In-either}
use Rattle.theory_onecopy.specs.Vocabulary.{IsOrdered}
use Rattle.qc_list.specs.Vocabulary.{In}

-- where a member of a mapped list comes from
pub record Mapped {A B : Type 0} (f : A → B) (y : B) (xs : List A) : Type 0 where
  pub from : A
  pub listed : In from xs
  pub is : y ≡ f from

pub map_in : {A B : Type 0} (f : A → B) (y : B) (xs : List A) → In y (map f xs) → Mapped f y xs
map_in f y [] h = absurd h
map_in f y (x ∷ xs) (inl same) = record { from = x; listed = inl refl; is = same }
map_in f y (x ∷ xs) (inr h) = let m = map_in f y xs h in record { from = m.from; listed = inr m.listed; is = m.is }

pub ordered-append : {A : Type 0} (before : A → A → Type 0) (xs ys : List A) → IsOrdered before xs → IsOrdered before ys
    → ((x y : A) → In x xs → In y ys → before x y) → IsOrdered before (xs ++ ys)
ordered-append before [] ys ox oy all = oy
ordered-append before (x ∷ xs) ys ox oy all = (
  λ z h. elim (In-either z xs ys h) [ inl a ↦ ox.0 z a | inr b ↦ all x z (inl refl) b ],
  ordered-append before xs ys ox.1 oy (λ a b ha hb. all a b (inr ha) hb),
)

pub ordered_across : {A : Type 0} (before : A → A → Type 0) (xs ys : List A) → IsOrdered before (xs ++ ys) → (x y : A)
    → In x xs → In y ys → before x y
ordered_across before [] ys o x y hx hy = absurd hx
ordered_across before (z ∷ zs) ys o x y (inl same) hy =
    subst (λ w. before w y) (sym same) (o.0 y (In-second y zs ys hy))
ordered_across before (z ∷ zs) ys o x y (inr hx) hy = ordered_across before zs ys o.1 x y hx hy

pub ordered_left : {A : Type 0} (before : A → A → Type 0) (xs ys : List A) → IsOrdered before (xs ++ ys)
    → IsOrdered before xs
ordered_left before [] ys o = tt
ordered_left before (x ∷ xs) ys o = (λ y h. o.0 y (In-first y xs ys h), ordered_left before xs ys o.1)

pub ordered_right : {A : Type 0} (before : A → A → Type 0) (xs ys : List A) → IsOrdered before (xs ++ ys)
    → IsOrdered before ys
ordered_right before [] ys o = o
ordered_right before (z ∷ zs) ys o = ordered_right before zs ys o.1

-- two members are one, or one stands before the other
pub compared : {A : Type 0} (before : A → A → Type 0) (xs : List A) → IsOrdered before xs → (x y : A) → In x xs
    → In y xs → (x ≡ y) ⊎ (before x y ⊎ before y x)
compared before [] o x y hx hy = absurd hx
compared before (z ∷ zs) o x y (inl a) (inl b) = inl (a ∙ sym b)
compared before (z ∷ zs) o x y (inl a) (inr b) = inr (inl (subst (λ w. before w y) (sym a) (o.0 y b)))
compared before (z ∷ zs) o x y (inr a) (inl b) = inr (inr (subst (λ w. before w x) (sym b) (o.0 x a)))
compared before (z ∷ zs) o x y (inr a) (inr b) = compared before zs o.1 x y a b
