-- Lists in an order, each item once.
use Rattle.std.specs.Prelude.{◌≡◌, List, [], ◌∷◌}
use Rattle.std.specs.declared.cmp.Ordering.{Ordering}
use Rattle.std.specs.declared.cmp.Ordering.TheVariants.{Less, Equal, Greater}

-- one of three values, as two items compare
abbrev pub by_order : {A : Type 0} → Ordering → A → A → A → A
by_order Less first both second = first
by_order Equal first both second = both
by_order Greater first both second = second

-- the item comes before each of the items
abbrev pub IsBelowAll : {A : Type 0} → (A → A → Ordering) → A → List A → Type 0
IsBelowAll cmp x [] = Unit {0}
IsBelowAll cmp x (y ∷ ys) = (cmp x y ≡ Less) × IsBelowAll cmp x ys

-- the items stand in order, each once
abbrev pub Ascends : {A : Type 0} → (A → A → Ordering) → List A → Type 0
Ascends cmp [] = Unit {0}
Ascends cmp (x ∷ xs) = IsBelowAll cmp x xs × Ascends cmp xs

-- the item at its place among ascending items, instead of one that ties with it
abbrev pub inserted : {A : Type 0} → (A → A → Ordering) → List A → A → List A
inserted cmp [] x = x ∷ []
inserted cmp (y ∷ ys) x = by_order (cmp x y) (x ∷ y ∷ ys) (x ∷ ys) (y ∷ inserted cmp ys x)
