-- The union of two logs: its lines, and that it ascends.
use Rattle.std.proofs.Common.{◌≡◌, ◌⊎◌, inl, inr, Some, None, List, [], ◌∷◌, ◌++◌, refl, sym, ap, ◌∙◌, subst}
use Rattle.std.specs.List.{AllByRecursion as Every, slice_get}
use Rattle.std.specs.declared.cmp.Ordering.{Ordering}
use Rattle.std.specs.declared.cmp.Ordering.TheVariants.{Less, Equal, Greater}
use Rattle.qc_entry.specs.declared.line.Line.{Line}
use Rattle.qc_entry.specs.Vocabulary.{IsAscending, IsUnion, line_cmp, union, union_from}
use Rattle.qc_list.specs.Vocabulary.{In, IsBelowAll, by_order}
use Rattle.qc_list.proofs.Members.{every-In, every-from_In}
use Rattle.qc_entry.proofs.Orders.{lines_are_ordered, above}
use Rattle.std.specs.Cmp.{tied_itself}
use Rattle.qc_list.proofs.Order.{below_trans}

pub union-nil : (xs : List Line) → union xs [] ≡ xs
union-nil [] = refl
union-nil (x ∷ xs) = refl

-- what holds of each choice holds of the choice by an order
pub chosen : {A : Type 0} (P : A → Type 0) (order : Ordering) (first both second : A) → P first → P both → P second
    → P (by_order order first both second)
chosen P Less first both second f b s = f
chosen P Equal first both second f b s = b
chosen P Greater first both second f b s = s

every-union_from : (P : Line → Type 0) (x : Line) (xs : List Line) (rest : List Line → List Line)
    → ((zs : List Line) → Every P zs → Every P (rest zs)) → (ys : List Line) → P x → Every P xs → Every P ys
    → Every P (union_from x xs rest ys)
every-union_from P x xs rest step [] px pxs pys = (px, pxs)
every-union_from P x xs rest step (y ∷ ys) px pxs pys =
    chosen (Every P) (line_cmp x y) _ _ _
    (px, step (y ∷ ys) pys)
    (px, step ys pys.1)
    (pys.0, every-union_from P x xs rest step ys px pxs pys.1)

-- what holds of every line of both lists holds of every line of their union
pub every-union : (P : Line → Type 0) (xs ys : List Line) → Every P xs → Every P ys → Every P (union xs ys)
every-union P [] ys pxs pys = pys
every-union P (x ∷ xs) ys pxs pys = every-union_from P x xs (union xs)
    (λ zs pzs. every-union P xs zs pxs.1 pzs) ys pxs.0 pxs.1 pys

ascending-union_from : (x : Line) (xs : List Line) → IsBelowAll line_cmp x xs → IsAscending xs
    → ((zs : List Line) → IsAscending zs → IsAscending (union xs zs)) → (ys : List Line) → IsAscending ys
    → IsAscending (union (x ∷ xs) ys)
ascending-union_from x xs low ascending step [] ys_ascending = (low, ascending)
ascending-union_from x xs low ascending step (y ∷ ys) ys_ascending =
    by (line_cmp x y) refl (ascending-union_from x xs low ascending step ys ys_ascending.1) where
      by : (order : Ordering) → line_cmp x y ≡ order → IsAscending (union (x ∷ xs) ys)
          → IsAscending (by_order order (x ∷ union xs (y ∷ ys)) (x ∷ union xs ys) (y ∷ union (x ∷ xs) ys))
      by Less is rest = (
        every-union (λ l. line_cmp x l ≡ Less) xs (y ∷ ys) low
            (is, below_trans line_cmp lines_are_ordered.total x y ys is ys_ascending.0),
        step (y ∷ ys) ys_ascending,
      )
      by Equal is rest =
          let same : y ≡ x = sym (lines_are_ordered.apart x y is) in (
            every-union (λ l. line_cmp x l ≡ Less) xs ys low (subst
                (λ l. IsBelowAll line_cmp l ys) same ys_ascending.0),
            step ys ys_ascending.1,
          )
      by Greater is rest =
          let less : line_cmp y x ≡ Less = above x y is in (
            every-union (λ l. line_cmp y l ≡ Less) (x ∷ xs) ys
                (less, below_trans line_cmp lines_are_ordered.total y x xs less low) ys_ascending.0,
            rest,
          )

-- the union of ascending lists ascends
pub ascending-union : (xs ys : List Line) → IsAscending xs → IsAscending ys → IsAscending (union xs ys)
ascending-union [] ys first second = second
ascending-union (x ∷ xs) ys first second =
    ascending-union_from x xs first.0 first.1 (λ zs ascending. ascending-union xs zs first.1 ascending) ys second

-- a line of the first list is in the union
in_first-from : (l x : Line) (xs : List Line) → ((zs : List Line) → In l xs → In l (union xs zs)) → (ys : List Line)
    → In l (x ∷ xs) → In l (union (x ∷ xs) ys)
in_first-from l x xs step [] member = member
in_first-from l x xs step (y ∷ ys) member =
    chosen (In l) (line_cmp x y) _ _ _ (head (y ∷ ys) member) (head ys member)
    (inr (in_first-from l x xs step ys member)) where
      head : (zs : List Line) → In l (x ∷ xs) → In l (x ∷ union xs zs)
      head zs (inl same) = inl same
      head zs (inr member) = inr (step zs member)

pub in_first : (l : Line) (xs ys : List Line) → In l xs → In l (union xs ys)
in_first l [] ys member = absurd member
in_first l (x ∷ xs) ys member = in_first-from l x xs (λ zs in_xs. in_first l xs zs in_xs) ys member

-- a line of the second list is in the union
in_second-from : (l x : Line) (xs : List Line) → ((zs : List Line) → In l zs → In l (union xs zs)) → (ys : List Line)
    → In l ys → In l (union (x ∷ xs) ys)
in_second-from l x xs step [] member = absurd member
in_second-from l x xs step (y ∷ ys) member =
    by (line_cmp x y) refl (λ in_ys. in_second-from l x xs step ys in_ys) member where
      by : (order : Ordering) → line_cmp x y ≡ order → (In l ys → In l (union (x ∷ xs) ys)) → In l (y ∷ ys)
          → In l (by_order order (x ∷ union xs (y ∷ ys)) (x ∷ union xs ys) (y ∷ union (x ∷ xs) ys))
      by Less is rest member = inr (step (y ∷ ys) member)
      by Equal is rest (inl same) = inl (same ∙ sym (lines_are_ordered.apart x y is))
      by Equal is rest (inr member) = inr (step ys member)
      by Greater is rest (inl same) = inl same
      by Greater is rest (inr member) = inr (rest member)

pub in_second : (l : Line) (xs ys : List Line) → In l ys → In l (union xs ys)
in_second l [] ys member = member
in_second l (x ∷ xs) ys member = in_second-from l x xs (λ zs in_zs. in_second l xs zs in_zs) ys member

-- a line of the union is in one of the lists
pub in_either : (l : Line) (xs ys : List Line) → In l (union xs ys) → In l xs ⊎ In l ys
in_either l xs ys member =
    let Either : Line → Type 0 = λ k. In k xs ⊎ In k ys in
    every-In Either l (union xs ys) (every-union Either xs ys (every-from_In Either xs (λ k. inl))
    (every-from_In Either ys (λ k. inr))) member

-- the union is sorted, and has the lines of both lists
pub union_is_a_union : (xs ys : List Line) → IsAscending xs → IsAscending ys → IsUnion xs ys (union xs ys)
union_is_a_union xs ys first second = record {
  ascending = ascending-union xs ys first second;
  members = λ l. (in_either l xs ys, by l);
} where
  by : (l : Line) → In l xs ⊎ In l ys → In l (union xs ys)
  by l (inl member) = in_first l xs ys member
  by l (inr member) = in_second l xs ys member

-- a list that comes after another is added at its end
pub union-after : (xs : List Line) (y : Line) (ys : List Line) → Every (λ x. line_cmp x y ≡ Less) xs
    → union xs (y ∷ ys) ≡ xs ++ y ∷ ys
union-after [] y ys low = refl
union-after (x ∷ xs) y ys low =
    ap (λ order. by_order order (x ∷ union xs (y ∷ ys)) (x ∷ union xs ys) (y ∷ union (x ∷ xs) ys)) low.0
    ∙ ap (λ zs. x ∷ zs) (union-after xs y ys low.1)

-- the same, with the first line of the other list as a read gives it
pub append-union : (xs ys : List Line) (first : Line) → Some first ≡ slice_get ys 0
    → Every (λ x. line_cmp x first ≡ Less) xs → xs ++ ys ≡ union xs ys
append-union xs [] first at low = absurd (let never : ⊥ = cc in never)
append-union xs (y ∷ ys) first at low =
    let same : first ≡ y = cc in
    sym (union-after xs y ys (subst (λ l. Every (λ x. line_cmp x l ≡ Less) xs) same low))

-- the union with a list that has no first line
pub union-empty : (xs ys : List Line) → None ≡ slice_get ys 0 → xs ≡ union xs ys
union-empty xs [] at = sym (union-nil xs)
union-empty xs (y ∷ ys) at = absurd (let never : ⊥ = cc in never)

-- what two lists begin with alike stands once in their union
pub union-shared : (p xs ys : List Line) → union (p ++ xs) (p ++ ys) ≡ p ++ union xs ys
union-shared [] xs ys = refl
union-shared (x ∷ p) xs ys =
    ap (λ order. by_order order (x ∷ union (p ++ xs) (x ∷ p ++ ys)) (x ∷ union (p ++ xs) (p ++ ys))
    (x ∷ union (x ∷ p ++ xs) (p ++ ys))) (tied_itself lines_are_ordered.total x)
    ∙ ap (λ zs. x ∷ zs) (union-shared p xs ys)
