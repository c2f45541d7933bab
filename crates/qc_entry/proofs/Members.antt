-- Ascending lists are settled by their members: so unions commute, associate and absorb, and a filter of a union is the
-- union of the filters. Front ends join the logs that sites send them; over several sites these come in any order.
use Rattle.std.proofs.Common.{◌≡◌, ℕ, ◌⊎◌, inl, inr, List, [], ◌∷◌, Bool, true, refl, sym, ap, ◌∙◌, subst}
use Rattle.std.proofs.lemmas.Cmp.{tied_itself}
use Rattle.std.specs.List.{filter}
use Rattle.std.specs.declared.cmp.Ordering.TheVariants.{Less, Equal}
use Rattle.qc_entry.specs.declared.line.Line.{Line}
use Rattle.qc_entry.specs.Vocabulary.{IsAscending, line_cmp, of_object, union}
use Rattle.qc_list.specs.Vocabulary.{In, IsBelowAll, by_order}
use Rattle.qc_list.proofs.Members.{every-In, In-filter, In-passes, In-unfiltered}
use Rattle.qc_entry.proofs.Orders.{lines_are_ordered}
use Rattle.qc_list.proofs.Order.{ascends-filter}
use Rattle.qc_entry.proofs.Union.{in_first, in_second, in_either, ascending-union}

-- no line is below itself
pub not_below : (l : Line) → line_cmp l l ≡ Less → ⊥
not_below l less = let tied : line_cmp l l ≡ Equal = tied_itself lines_are_ordered.total l in
    let never : ⊥ = cc (less, tied) in never

-- a line that is below all lines of a list is not one of them
pub not_among : (x : Line) (xs : List Line) → IsBelowAll line_cmp x xs → In x xs → ⊥
not_among x xs low member = not_below x (every-In (λ y. line_cmp x y ≡ Less) x xs low member)

first_same : (x : Line) (xs : List Line) (y : Line) (ys : List Line) → IsAscending (x ∷ xs) → IsAscending (y ∷ ys)
    → In x (y ∷ ys) → In y (x ∷ xs) → x ≡ y
first_same x xs y ys a b (inl same) there = same
first_same x xs y ys a b (inr here) (inl same) = sym same
first_same x xs y ys a b (inr here) (inr there) =
    let less : line_cmp y x ≡ Less = every-In (λ z. line_cmp y z ≡ Less) x ys b.0 here in
    let more : line_cmp x y ≡ Less = every-In (λ z. line_cmp x z ≡ Less) y xs a.0 there in
    absurd (not_below x (lines_are_ordered.total.trans x y x more less))

-- a line behind the first of one list is behind the first, if that is the same, of the other
behind : (x : Line) (xs : List Line) (y : Line) (ys : List Line) → x ≡ y → IsBelowAll line_cmp x xs → (l : Line)
    → In l xs → In l (y ∷ ys) → In l ys
behind x xs y ys heads low l member (inr later) = later
behind x xs y ys heads low l member (inl same) =
    absurd (not_among x xs low (subst (λ z. In z xs) (same ∙ sym heads) member))

-- two ascending lists with the same lines are the same
pub ascending-same : (xs ys : List Line) → IsAscending xs → IsAscending ys → ((l : Line) → In l xs → In l ys)
    → ((l : Line) → In l ys → In l xs) → xs ≡ ys
ascending-same [] [] a b to from = refl
ascending-same [] (y ∷ ys) a b to from = absurd (from y (inl refl))
ascending-same (x ∷ xs) [] a b to from = absurd (to x (inl refl))
ascending-same (x ∷ xs) (y ∷ ys) a b to from =
    let heads : x ≡ y = first_same x xs y ys a b (to x (inl refl)) (from y (inl refl)) in
    let tails : xs ≡ ys =
    ascending-same xs ys a.1 b.1
    (λ l member. behind x xs y ys heads a.0 l member (to l (inr member)))
    (λ l member. behind y ys x xs (sym heads) b.0 l member (from l (inr member))) in
    ap (λ z. z ∷ xs) heads ∙ ap (λ zs. y ∷ zs) tails

-- a list with itself gives itself
pub union-self : (xs : List Line) → union xs xs ≡ xs
union-self [] = refl
union-self (x ∷ xs) =
    ap (λ order. by_order order (x ∷ union xs (x ∷ xs)) (x ∷ union xs xs) (x ∷ union (x ∷ xs) xs))
    (tied_itself lines_are_ordered.total x) ∙ ap (λ zs. x ∷ zs) (union-self xs)

swapped : {A B : Type 0} → A ⊎ B → B ⊎ A
swapped (inl a) = inr a
swapped (inr b) = inl b

pub in_union : (l : Line) (xs ys : List Line) → In l xs ⊎ In l ys → In l (union xs ys)
in_union l xs ys (inl member) = in_first l xs ys member
in_union l xs ys (inr member) = in_second l xs ys member

-- the order of the lists doesn't matter
pub union-commutes : (xs ys : List Line) → IsAscending xs → IsAscending ys → union xs ys ≡ union ys xs
union-commutes xs ys a b =
    ascending-same (union xs ys) (union ys xs) (ascending-union xs ys a b) (ascending-union ys xs b a)
    (λ l member. in_union l ys xs (swapped (in_either l xs ys member)))
    (λ l member. in_union l xs ys (swapped (in_either l ys xs member)))

-- nor does the grouping of the lists
pub union-associates : (xs ys zs : List Line) → IsAscending xs → IsAscending ys → IsAscending zs
    → union (union xs ys) zs ≡ union xs (union ys zs)
union-associates xs ys zs a b c =
    let front = ascending-union xs ys a b in
    let back = ascending-union ys zs b c in
    ascending-same (union (union xs ys) zs) (union xs (union ys zs)) (ascending-union (union xs ys) zs front c)
    (ascending-union xs (union ys zs) a back)
    (λ l member. to l (in_either l (union xs ys) zs member))
    (λ l member. from l (in_either l xs (union ys zs) member)) where
      to_front : (l : Line) → In l xs ⊎ In l ys → In l (union xs (union ys zs))
      to_front l (inl member) = in_first l xs (union ys zs) member
      to_front l (inr member) = in_second l xs (union ys zs) (in_first l ys zs member)

      to : (l : Line) → In l (union xs ys) ⊎ In l zs → In l (union xs (union ys zs))
      to l (inl member) = to_front l (in_either l xs ys member)
      to l (inr member) = in_second l xs (union ys zs) (in_second l ys zs member)

      from_back : (l : Line) → In l ys ⊎ In l zs → In l (union (union xs ys) zs)
      from_back l (inl member) = in_first l (union xs ys) zs (in_second l xs ys member)
      from_back l (inr member) = in_second l (union xs ys) zs member

      from : (l : Line) → In l xs ⊎ In l (union ys zs) → In l (union (union xs ys) zs)
      from l (inl member) = in_first l (union xs ys) zs (in_first l xs ys member)
      from l (inr member) = from_back l (in_either l ys zs member)

-- lines that the list has add nothing
pub union-absorbs : (xs ys : List Line) → IsAscending xs → IsAscending ys → ((l : Line) → In l ys → In l xs)
    → union xs ys ≡ xs
union-absorbs xs ys a b within =
    ascending-same (union xs ys) xs (ascending-union xs ys a b) a
    (λ l member. either l (in_either l xs ys member))
    (λ l member. in_first l xs ys member) where
      either : (l : Line) → In l xs ⊎ In l ys → In l xs
      either l (inl member) = member
      either l (inr member) = within l member

-- the filter of a union is the union of the filters
pub filter-union : (test : Line → Bool) (xs ys : List Line) → IsAscending xs → IsAscending ys
    → filter test (union xs ys) ≡ union (filter test xs) (filter test ys)
filter-union test xs ys a b =
    ascending-same (filter test (union xs ys)) (union (filter test xs) (filter test ys))
    (ascends-filter line_cmp test (union xs ys) (ascending-union xs ys a b))
    (ascending-union (filter test xs) (filter test ys) (ascends-filter line_cmp test xs a)
    (ascends-filter line_cmp test ys b))
    (λ l member. in_union l (filter test xs) (filter test ys)
    (there l (In-passes test l (union xs ys) member)
    (in_either l xs ys (In-unfiltered test l (union xs ys) member))))
    (λ l member. back l (in_either l (filter test xs) (filter test ys) member)) where
      there : (l : Line) → test l ≡ true → In l xs ⊎ In l ys → In l (filter test xs) ⊎ In l (filter test ys)
      there l passes (inl member) = inl (In-filter test l xs member passes)
      there l passes (inr member) = inr (In-filter test l ys member passes)

      back : (l : Line) → In l (filter test xs) ⊎ In l (filter test ys) → In l (filter test (union xs ys))
      back l (inl member) = In-filter test l (union xs ys) (in_first l xs ys (In-unfiltered test l xs member))
          (In-passes test l xs member)
      back l (inr member) = In-filter test l (union xs ys) (in_second l xs ys (In-unfiltered test l ys member))
          (In-passes test l ys member)

-- the lines of one object ascend
pub ascending-of_object : (xs : List Line) (object : ℕ) → IsAscending xs → IsAscending (of_object xs object)
ascending-of_object xs object ascending = ascends-filter line_cmp _ xs ascending
