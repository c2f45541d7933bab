-- Sites that join the asked ones are among them, and so are those that were there.
use Rattle.std.proofs.Common.{◌≡◌, ℕ, inl, inr, List, [], ◌∷◌, fold, refl, sym, ◌∙◌, subst}
use Rattle.std.specs.Ordering.{nat_cmp}
use Rattle.std.specs.declared.cmp.Ordering.{Ordering}
use Rattle.std.specs.declared.cmp.Ordering.TheVariants.{Equal, Greater, Less}
use Rattle.qc_list.specs.Vocabulary.{In, by_order, inserted}
use Rattle.qc_msg.specs.Vocabulary.{with_site}
use Rattle.qc_stamp.proofs.Orders.{nat_apart}

in_inserted : (x y : ℕ) (ys : List ℕ) → In x ys → In x (inserted nat_cmp ys y)
in_inserted x y [] among = absurd among
in_inserted x y (z ∷ zs) among = by (nat_cmp y z) refl among (in_inserted x y zs)
  where
    same_as : nat_cmp y z ≡ Equal → y ≡ z
    same_as is = nat_apart y z is

    by : (order : Ordering) → nat_cmp y z ≡ order → In x (z ∷ zs) → (In x zs → In x (inserted nat_cmp zs y))
        → In x (by_order order (y ∷ z ∷ zs) (y ∷ zs) (z ∷ inserted nat_cmp zs y))
    by Less is here rest = inr here
    by Equal is (inl same) rest = inl (same ∙ sym (same_as is))
    by Equal is (inr later) rest = inr later
    by Greater is (inl same) rest = inl same
    by Greater is (inr later) rest = inr (rest later)

inserted_in : (y : ℕ) (ys : List ℕ) → In y (inserted nat_cmp ys y)
inserted_in y [] = inl refl
inserted_in y (z ∷ zs) = by (nat_cmp y z) (inserted_in y zs)
  where
    by : (order : Ordering) → In y (inserted nat_cmp zs y)
        → In y (by_order order (y ∷ z ∷ zs) (y ∷ zs) (z ∷ inserted nat_cmp zs y))
    by Less rest = inl refl
    by Equal rest = inl refl
    by Greater rest = inr rest

pub joined_first : (x : ℕ) (xs ys : List ℕ) → In x xs → In x (fold with_site xs ys)
joined_first x xs [] among = among
joined_first x xs (y ∷ ys) among = joined_first x (with_site xs y) ys (in_inserted x y xs among)

pub joined_second : (x : ℕ) (xs ys : List ℕ) → In x ys → In x (fold with_site xs ys)
joined_second x xs [] among = absurd among
joined_second x xs (y ∷ ys) (inl same) =
    joined_first x (with_site xs y) ys (subst (λ (k : ℕ). In k (with_site xs y)) (sym same) (inserted_in y xs))
joined_second x xs (y ∷ ys) (inr later) = joined_second x (with_site xs y) ys later
