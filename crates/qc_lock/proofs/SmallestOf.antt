-- The smallest of those of which a predicate holds; members of lists that are joined, mapped and filtered.
use Rattle.std.proofs.Common.{[], ◌≡◌, ◌⊎◌, inl, inr, Bool, true, false, cond, List, ◌∷◌, ◌++◌, fold, filter, map}
use Rattle.std.proofs.Common.{Option, Some, None, refl, sym, ◌∙◌, ap, subst}
use Rattle.std.specs.Cmp.{IsTotalOrder}
use Rattle.std.specs.List.{flat_map}
use Rattle.std.specs.Ordering.{ordering_reverse}
use Rattle.std.specs.declared.cmp.Ordering.{Ordering}
use Rattle.std.specs.declared.cmp.Ordering.TheVariants.{Less, Equal, Greater}
use Rattle.std.proofs.lemmas.Cmp.{then_total, on_total, nat_cmp_total}
use Rattle.qc_stamp.proofs.Orders.{transactions_are_ordered}
use Rattle.qc_list.specs.Vocabulary.{by_order}
use Rattle.qc_lock.specs.declared.clash.Clash.{Clash}
use Rattle.qc_lock.specs.Vocabulary.{In, IsSmallest, clash_cmp, smaller, smallest}

pub clash_total : IsTotalOrder clash_cmp
clash_total =
    then_total (on_total (λ (c : Clash). c.holder) transactions_are_ordered.total)
    (then_total (on_total (λ (c : Clash). c.inv) nat_cmp_total) (on_total (λ (c : Clash). c.event) nat_cmp_total))

pub never_both : (o : Ordering) → o ≡ Less → o ≡ Greater → ⊥
never_both o a b = cc

equal_self : (c : Clash) → clash_cmp c c ≡ Equal
equal_self c = by (clash_cmp c c) refl where
  by : (o : Ordering) → clash_cmp c c ≡ o → o ≡ Equal
  by Less is =
      let turned : clash_cmp c c ≡ Greater = clash_total.antisymm c c ∙ ap ordering_reverse is in
      absurd (never_both (clash_cmp c c) is turned)
  by Equal is = refl
  by Greater is =
      let turned : clash_cmp c c ≡ Less = clash_total.antisymm c c ∙ ap ordering_reverse is in
      absurd (never_both (clash_cmp c c) turned is)

-- the smallest so far

pub equal_or : (o : Ordering) → o ≡ Equal → o ≡ Greater → ⊥
equal_or o a b = cc

pub turned : (a b : Clash) (o : Ordering) → clash_cmp a b ≡ o → clash_cmp b a ≡ ordering_reverse o
turned a b o is = clash_total.antisymm b a ∙ ap ordering_reverse is

-- a clash below the smallest so far is below all
below : (best c d : Clash) → clash_cmp c best ≡ Less → (clash_cmp best d ≡ Greater → ⊥) → clash_cmp c d ≡ Greater → ⊥
below best c d less most greater =
    let back : clash_cmp d c ≡ Less = turned c d Greater greater in
    most (turned d best Less (clash_total.trans d c best back less))

step : (P : Clash → Type 0) (best : Option Clash) (c : Clash) → IsSmallest P best
    → IsSmallest (λ d. P d ⊎ (d ≡ c)) (smaller best c)
step P None c least = (inr refl, only) where
  only : (d : Clash) → P d ⊎ (d ≡ c) → clash_cmp c d ≡ Greater → ⊥
  only d (inl p) greater = least d p
  only d (inr is) greater =
      equal_or (clash_cmp c d) (subst (λ x. clash_cmp c x ≡ Equal) (sym is) (equal_self c)) greater
step P (Some best) c least = by (clash_cmp c best) refl where
  by : (o : Ordering) → clash_cmp c best ≡ o → IsSmallest (λ d. P d ⊎ (d ≡ c)) (Some (by_order o c best best))
  by Less is = (inr refl, all) where
    all : (d : Clash) → P d ⊎ (d ≡ c) → clash_cmp c d ≡ Greater → ⊥
    all d (inl p) greater = below best c d is (least.1 d p) greater
    all d (inr same) greater =
        equal_or (clash_cmp c d) (subst (λ x. clash_cmp c x ≡ Equal) (sym same) (equal_self c)) greater
  by Equal is = (inl least.0, all) where
    all : (d : Clash) → P d ⊎ (d ≡ c) → clash_cmp best d ≡ Greater → ⊥
    all d (inl p) greater = least.1 d p greater
    all d (inr same) greater =
        equal_or (clash_cmp best c) (turned c best Equal is) (subst (λ x. clash_cmp best x ≡ Greater) same greater)
  by Greater is = (inl least.0, all) where
    all : (d : Clash) → P d ⊎ (d ≡ c) → clash_cmp best d ≡ Greater → ⊥
    all d (inl p) greater = least.1 d p greater
    all d (inr same) greater =
        never_both (clash_cmp best c) (turned c best Greater is) (subst (λ x. clash_cmp best x ≡ Greater) same greater)

-- smallest by one predicate is so by another that says the same
pub smallest_by : (P Q : Clash → Type 0) (best : Option Clash) → ((d : Clash) → P d → Q d) → ((d : Clash) → Q d → P d)
    → IsSmallest P best → IsSmallest Q best
smallest_by P Q None to back least = λ d q. least d (back d q)
smallest_by P Q (Some best) to back least = (to best least.0, λ d q. least.1 d (back d q))

run : (P : Clash → Type 0) (best : Option Clash) (cs : List Clash) → IsSmallest P best
    → IsSmallest (λ d. P d ⊎ In d cs) (fold smaller best cs)
run P best [] least = smallest_by P (λ d. P d ⊎ In d []) best (λ d p. inl p) back least where
  back : (d : Clash) → P d ⊎ In d [] → P d
  back d (inl p) = p
  back d (inr never) = absurd never
run P best (c ∷ cs) least =
    smallest_by (λ d. (P d ⊎ (d ≡ c)) ⊎ In d cs) (λ d. P d ⊎ In d (c ∷ cs)) (fold smaller (smaller best c) cs) to back
    (run (λ d. P d ⊎ (d ≡ c)) (smaller best c) cs (step P best c least)) where
      to : (d : Clash) → (P d ⊎ (d ≡ c)) ⊎ In d cs → P d ⊎ In d (c ∷ cs)
      to d (inl (inl p)) = inl p
      to d (inl (inr is)) = inr (inl is)
      to d (inr member) = inr (inr member)

      back : (d : Clash) → P d ⊎ In d (c ∷ cs) → (P d ⊎ (d ≡ c)) ⊎ In d cs
      back d (inl p) = inl (inl p)
      back d (inr (inl is)) = inl (inr is)
      back d (inr (inr member)) = inr member

pub smallest_of : (cs : List Clash) → IsSmallest (λ d. In d cs) (smallest cs)
smallest_of cs =
    smallest_by (λ d. ⊥ ⊎ In d cs) (λ d. In d cs) (smallest cs) to (λ d member. inr member)
    (run (λ d. ⊥) None cs (λ d never. never)) where
      to : (d : Clash) → ⊥ ⊎ In d cs → In d cs
      to d (inl never) = absurd never
      to d (inr member) = member

-- membership

pub in-append_left : {A : Type 0} (x : A) (xs ys : List A) → In x xs → In x (xs ++ ys)
in-append_left x [] ys member = absurd member
in-append_left x (z ∷ zs) ys (inl is) = inl is
in-append_left x (z ∷ zs) ys (inr member) = inr (in-append_left x zs ys member)

pub in-append_right : {A : Type 0} (x : A) (xs ys : List A) → In x ys → In x (xs ++ ys)
in-append_right x [] ys member = member
in-append_right x (z ∷ zs) ys member = inr (in-append_right x zs ys member)

pub in-append : {A : Type 0} (x : A) (xs ys : List A) → In x (xs ++ ys) → In x xs ⊎ In x ys
in-append x [] ys member = inr member
in-append x (z ∷ zs) ys (inl is) = inl (inl is)
in-append {A = A} x (z ∷ zs) ys (inr member) = by (in-append x zs ys member) where
  by : In x zs ⊎ In x ys → In x (z ∷ zs) ⊎ In x ys
  by (inl here) = inl (inr here)
  by (inr there) = inr there

-- some member of a list, of which the fact holds
abbrev pub Some_in : {A : Type 0} → (A → Type 0) → List A → Type 0
Some_in {A} P xs = (x : A) × In x xs × P x

pub in-flat_map : {A B : Type 0} (f : A → List B) (y : B) (xs : List A) → In y (flat_map f xs)
    → Some_in (λ x. In y (f x)) xs
in-flat_map f y [] member = absurd member
in-flat_map {A = A} {B = B} f y (x ∷ xs) member =
    by (in-append y (f x) (flat_map f xs) member) (in-flat_map f y xs) where
      by : In y (f x) ⊎ In y (flat_map f xs) → (In y (flat_map f xs) → Some_in (λ z. In y (f z)) xs)
          → Some_in (λ z. In y (f z)) (x ∷ xs)
      by (inl here) rest = (x, inl refl, here)
      by (inr there) rest = let found = rest there in (found.0, inr found.1, found.2)

pub flat_map-in : {A B : Type 0} (f : A → List B) (y : B) (x : A) (xs : List A) → In x xs → In y (f x)
    → In y (flat_map f xs)
flat_map-in f y x [] member here = absurd member
flat_map-in f y x (z ∷ zs) (inl is) here = in-append_left y (f z) (flat_map f zs) (subst (λ w. In y (f w)) is here)
flat_map-in f y x (z ∷ zs) (inr member) here =
    in-append_right y (f z) (flat_map f zs) (flat_map-in f y x zs member here)

pub in-map : {A B : Type 0} (f : A → B) (y : B) (xs : List A) → In y (map f xs) → Some_in (λ x. y ≡ f x) xs
in-map f y [] member = absurd member
in-map f y (x ∷ xs) (inl is) = (x, inl refl, is)
in-map f y (x ∷ xs) (inr member) = let found = in-map f y xs member in (found.0, inr found.1, found.2)

pub map-in : {A B : Type 0} (f : A → B) (x : A) (xs : List A) → In x xs → In (f x) (map f xs)
map-in f x [] member = absurd member
map-in f x (z ∷ zs) (inl is) = inl (ap f is)
map-in f x (z ∷ zs) (inr member) = inr (map-in f x zs member)

pub in-filter : {A : Type 0} (test : A → Bool) (x : A) (xs : List A) → In x (filter test xs) → In x xs × (test x ≡ true)
in-filter test x [] member = absurd member
in-filter {A = A} test x (z ∷ zs) member = by (test z) refl (in-filter test x zs) member where
  by : (t : Bool) → test z ≡ t → (In x (filter test zs) → In x zs × (test x ≡ true))
      → In x (cond t (z ∷ filter test zs) (filter test zs)) → In x (z ∷ zs) × (test x ≡ true)
  by true is rest (inl same) = (inl same, subst (λ w. test w ≡ true) (sym same) is)
  by true is rest (inr member) = let found = rest member in (inr found.0, found.1)
  by false is rest member = let found = rest member in (inr found.0, found.1)

pub filter-in : {A : Type 0} (test : A → Bool) (x : A) (xs : List A) → In x xs → test x ≡ true → In x (filter test xs)
filter-in test x [] member passes = absurd member
filter-in {A = A} test x (z ∷ zs) member passes =
    by (test z) refl (λ there. filter-in test x zs there passes) member where
      by : (t : Bool) → test z ≡ t → (In x zs → In x (filter test zs)) → In x (z ∷ zs)
          → In x (cond t (z ∷ filter test zs) (filter test zs))
      by true is rest (inl same) = inl same
      by true is rest (inr member) = inr (rest member)
      by false is rest (inl same) = let no : test x ≡ false = subst (λ w. test w ≡ false) (sym same) is in absurd (cc)
      by false is rest (inr member) = rest member
