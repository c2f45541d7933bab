-- Ascending lists with the same members are the same.
use Rattle.std.proofs.Common.{◌≡◌, ◌⊎◌, inl, inr, List, [], ◌∷◌, refl, sym, ◌∙◌, ap, subst}
use Rattle.std.specs.Ordering.{ordering_reverse}
use Rattle.std.specs.declared.cmp.Ordering.{Ordering}
use Rattle.std.specs.declared.cmp.Ordering.TheVariants.{Less, Equal, Greater}
use Rattle.qc_list.specs.Vocabulary.{Ascends, In, IsBelowAll, by_order, inserted}
use Rattle.qc_stamp.specs.Vocabulary.{IsOrder}

-- no item is before itself, nor two before each other
not_both : {A : Type 0} {cmp : A → A → Ordering} → IsOrder cmp → (x y : A) → cmp x y ≡ Less → cmp y x ≡ Less → ⊥
not_both {cmp = cmp} order x y less more =
    let turned : cmp x y ≡ Greater = order.total.antisymm x y ∙ ap ordering_reverse more in
    cc

pub below_In : {A : Type 0} (cmp : A → A → Ordering) (x y : A) (ys : List A) → IsBelowAll cmp x ys → In y ys
    → cmp x y ≡ Less
below_In cmp x y [] below member = absurd member
below_In cmp x y (z ∷ zs) below (inl same) = subst (λ w. cmp x w ≡ Less) (sym same) below.0
below_In cmp x y (z ∷ zs) below (inr member) = below_In cmp x y zs below.1 member

-- the first of both is the same, and so are the members of the rests

first_same : {A : Type 0} {cmp : A → A → Ordering} → IsOrder cmp → (x y : A) (xs ys : List A) → IsBelowAll cmp x xs
    → IsBelowAll cmp y ys → In x (y ∷ ys) → In y (x ∷ xs) → x ≡ y
first_same order x y xs ys low_x low_y (inl same) in_x = same
first_same order x y xs ys low_x low_y (inr later) (inl same) = sym same
first_same {cmp = cmp} order x y xs ys low_x low_y (inr later) (inr after) =
    absurd (not_both order x y (below_In cmp x y xs low_x after) (below_In cmp y x ys low_y later))

rest_In : {A : Type 0} {cmp : A → A → Ordering} → IsOrder cmp → (x y z : A) (xs ys : List A) → IsBelowAll cmp x xs
    → x ≡ y → In z xs → In z (y ∷ ys) → In z ys
rest_In {cmp = cmp} order x y z xs ys low same member (inl first) =
    let less : cmp x z ≡ Less = below_In cmp x z xs low member in
    let itself : cmp x x ≡ Less = subst (λ w. cmp x w ≡ Less) (first ∙ sym same) less in
    absurd (not_both order x x itself itself)
rest_In order x y z xs ys low same member (inr later) = later

pub same_ascending : {A : Type 0} {cmp : A → A → Ordering} → IsOrder cmp → (xs ys : List A) → Ascends cmp xs
    → Ascends cmp ys
    → ((z : A) → In z xs → In z ys) → ((z : A) → In z ys → In z xs) → xs ≡ ys
same_ascending order [] [] first second to from = refl
same_ascending order [] (y ∷ ys) first second to from = absurd (from y (inl refl))
same_ascending order (x ∷ xs) [] first second to from = absurd (to x (inl refl))
same_ascending order (x ∷ xs) (y ∷ ys) first second to from =
    let same : x ≡ y = first_same order x y xs ys first.0 second.0 (to x (inl refl)) (from y (inl refl)) in
    let rest : xs ≡ ys = same_ascending order xs ys first.1 second.1
    (λ z member. rest_In order x y z xs ys first.0 same member (to z (inr member)))
    (λ z member. rest_In order y x z ys xs second.0 (sym same) member (from z (inr member))) in
    ap (λ w. w ∷ xs) same ∙ ap (λ ws. y ∷ ws) rest

-- the members of a list with one more at its place

pub inserted_In : {A : Type 0} {cmp : A → A → Ordering} → IsOrder cmp → (z x : A) (ys : List A) → (z ≡ x) ⊎ In z ys
    → In z (inserted cmp ys x)
inserted_In order z x [] (inl same) = inl same
inserted_In order z x [] (inr never) = absurd never
inserted_In {A = A} {cmp = cmp} order z x (y ∷ ys) member =
    by (cmp x y) refl member (λ either. inserted_In order z x ys either) where
      by : (o : Ordering) → cmp x y ≡ o → (z ≡ x) ⊎ In z (y ∷ ys) → ((z ≡ x) ⊎ In z ys → In z (inserted cmp ys x))
          → In z (by_order o (x ∷ y ∷ ys) (x ∷ ys) (y ∷ inserted cmp ys x))
      by Less is (inl same) rest = inl same
      by Less is (inr member) rest = inr member
      by Equal is (inl same) rest = inl same
      by Equal is (inr (inl same)) rest = inl (same ∙ sym (order.apart x y is))
      by Equal is (inr (inr member)) rest = inr member
      by Greater is (inl same) rest = inr (rest (inl same))
      by Greater is (inr (inl same)) rest = inl same
      by Greater is (inr (inr member)) rest = inr (rest (inr member))

pub In_inserted : {A : Type 0} (cmp : A → A → Ordering) (z x : A) (ys : List A) → In z (inserted cmp ys x)
    → (z ≡ x) ⊎ In z ys
In_inserted cmp z x [] (inl same) = inl same
In_inserted cmp z x [] (inr never) = absurd never
In_inserted {A = A} cmp z x (y ∷ ys) member = by (cmp x y) member (λ later. In_inserted cmp z x ys later) where
  by : (o : Ordering) → In z (by_order o (x ∷ y ∷ ys) (x ∷ ys) (y ∷ inserted cmp ys x))
      → (In z (inserted cmp ys x) → (z ≡ x) ⊎ In z ys) → (z ≡ x) ⊎ In z (y ∷ ys)
  by Less (inl same) rest = inl same
  by Less (inr member) rest = inr member
  by Equal (inl same) rest = inl same
  by Equal (inr member) rest = inr (inr member)
  by Greater (inl same) rest = inr (inl same)
  by Greater (inr member) rest = behind (rest member) where
    behind : (z ≡ x) ⊎ In z ys → (z ≡ x) ⊎ In z (y ∷ ys)
    behind (inl same) = inl same
    behind (inr member) = inr (inr member)
