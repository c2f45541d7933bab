-- What holds of each item of a list, where one is changed or all are, one after another.
use Rattle.std.proofs.Common.{◌≡◌, ℕ, zero, suc, ◌+◌, ◌<◌, List, [], ◌∷◌, ◌++◌, length, get_or, map, set, take, drop}
use Rattle.std.proofs.Common.{refl, ap, subst, ◌∙◌, arith}
use Rattle.std.specs.List.{AllByRecursion as Every}

pub every_get : {A : Type 0} (P : A → Type 0) (xs : List A) (a : ℕ) (d : A) → Every P xs → a < length xs
    → P (get_or xs a d)
every_get P [] a d all within = absurd (omega arith)
every_get P (x ∷ xs) zero d all within = all.0
every_get P (x ∷ xs) (suc a) d all within = every_get P xs a d all.1 (omega arith)

pub every_set : {A : Type 0} (P : A → Type 0) (xs : List A) (a : ℕ) (x : A) → Every P xs → P x → Every P (set xs a x)
every_set P [] a x all is = all
every_set P (y ∷ ys) zero x all is = (is, all.1)
every_set P (y ∷ ys) (suc a) x all is = (all.0, every_set P ys a x all.1 is)

pub every_weaker : {A : Type 0} (P Q : A → Type 0) (xs : List A) → ((x : A) → P x → Q x) → Every P xs → Every Q xs
every_weaker P Q [] f all = all
every_weaker P Q (x ∷ xs) f all = (f x all.0, every_weaker P Q xs f all.1)

-- one item is changed, and the others have less
pub every_less : {A : Type 0} (P Q : A → Type 0) (xs : List A) (a : ℕ) (x : A) → ((y : A) → P y → Q y) → Q x
    → Every P xs → Every Q (set xs a x)
every_less P Q xs a x f is all = every_set Q xs a x (every_weaker P Q xs f all) is

-- the front is done, and one item more
pub every_front : {A : Type 0} (P : A → Type 0) (xs : List A) (a : ℕ) (x : A) → a < length xs → Every P (take a xs)
    → P x → Every P (take (suc a) (set xs a x))
every_front P [] a x within all is = absurd (omega arith)
every_front P (y ∷ ys) zero x within all is = (is, tt {0})
every_front P (y ∷ ys) (suc a) x within all is = (all.0, every_front P ys a x (omega arith) all.1 is)

-- the rest is as it was
pub every_rest : {A : Type 0} (P : A → Type 0) (xs : List A) (a : ℕ) (x : A) → Every P (drop a xs)
    → Every P (drop (suc a) (set xs a x))
every_rest P [] zero x all = all
every_rest P [] (suc a) x all = all
every_rest P (y ∷ ys) zero x all = all.1
every_rest P (y ∷ ys) (suc a) x all = every_rest P ys a x all

pub every_first : {A : Type 0} (P : A → Type 0) (xs : List A) (a : ℕ) (d : A) → a < length xs → Every P (drop a xs)
    → P (get_or xs a d)
every_first P [] a d within all = absurd (omega arith)
every_first P (x ∷ xs) zero d within all = all.0
every_first P (x ∷ xs) (suc a) d within all = every_first P xs a d (omega arith) all

pub every_whole : {A : Type 0} (P : A → Type 0) (xs : List A) (a : ℕ) → length xs ≡ a → Every P (take a xs) → Every P xs
every_whole P [] zero e all = all
every_whole P [] (suc a) e all = all
every_whole P (x ∷ xs) zero e all = absurd (omega arith)
every_whole P (x ∷ xs) (suc a) e all = (all.0, every_whole P xs a (omega arith) all.1)

-- one item of a mapped list
pub map_get : {A B : Type 0} (f : A → B) (xs : List A) (a : ℕ) (d : A) (e : B) → a < length xs
    → get_or (map f xs) a e ≡ f (get_or xs a d)
map_get f [] a d e within = absurd (omega arith)
map_get f (x ∷ xs) zero d e within = refl
map_get f (x ∷ xs) (suc a) d e within = map_get f xs a d e (omega arith)

-- an item that shows the same
pub map_same : {A B : Type 0} (f : A → B) (xs : List A) (a : ℕ) (x d : A) → a < length xs → f x ≡ f (get_or xs a d)
    → map f (set xs a x) ≡ map f xs
map_same f [] a x d within e = absurd (omega arith)
map_same f (y ∷ ys) zero x d within e = ap (λ z. z ∷ map f ys) e
map_same f (y ∷ ys) (suc a) x d within e = ap (λ zs. f y ∷ zs) (map_same f ys a x d (omega arith) e)

-- one item is changed by g, as it shows
pub map_changed : {A B : Type 0} (f : A → B) (g : B → B) (xs : List A) (a : ℕ) (x d : A) (e : B) → a < length xs
    → f x ≡ g (f (get_or xs a d)) → map f (set xs a x) ≡ set (map f xs) a (g (get_or (map f xs) a e))
map_changed f g [] a x d e within is = absurd (omega arith)
map_changed f g (y ∷ ys) zero x d e within is = ap (λ z. z ∷ map f ys) is
map_changed f g (y ∷ ys) (suc a) x d e within is = ap (λ zs. f y ∷ zs) (map_changed f g ys a x d e (omega arith) is)

-- all items are changed by g, one after another: the first ones are, and one more is
pub map_next : {A B : Type 0} (f : A → B) (g : B → B) (olds xs : List A) (a : ℕ) (x d : A) → a < length olds
    → map f xs ≡ map g (map f (take a olds)) ++ map f (drop a olds) → f x ≡ g (f (get_or xs a d))
    → map f (set xs a x) ≡ map g (map f (take (suc a) olds)) ++ map f (drop (suc a) olds)
map_next f g [] xs a x d within is made = absurd (omega arith)
map_next f g (o ∷ olds) [] zero x d within is made = absurd (let no : ⊥ = cc in no)
map_next f g (o ∷ olds) [] (suc a) x d within is made = absurd (let no : ⊥ = cc in no)
map_next f g (o ∷ olds) (y ∷ ys) zero x d within is made =
    let here : f y ≡ f o = cc in
    let rest : map f ys ≡ map f olds = cc in
    λ i. (made ∙ ap g here) i ∷ rest i
map_next f g (o ∷ olds) (y ∷ ys) (suc a) x d within is made =
    let here : f y ≡ g (f o) = cc in
    let rest : map f ys ≡ map g (map f (take a olds)) ++ map f (drop a olds) = cc in
    λ i. here i ∷ map_next f g olds ys a x d (omega arith) rest made i

-- the same, for the number that follows

pub next : (a : ℕ) → suc a ≡ a + 1
next a = omega arith

pub front_next : {A : Type 0} (P : A → Type 0) (xs : List A) (a : ℕ) (x : A) → a < length xs → Every P (take a xs) → P x
    → Every P (take (a + 1) (set xs a x))
front_next P xs a x within all is = subst (λ n. Every P (take n (set xs a x))) (next a)
    (every_front P xs a x within all is)

pub rest_next : {A : Type 0} (P : A → Type 0) (xs : List A) (a : ℕ) (x : A) → Every P (drop a xs)
    → Every P (drop (a + 1) (set xs a x))
rest_next P xs a x all = subst (λ n. Every P (drop n (set xs a x))) (next a) (every_rest P xs a x all)

pub map_on : {A B : Type 0} (f : A → B) (g : B → B) (olds xs : List A) (a : ℕ) (x d : A) → a < length olds
    → map f xs ≡ map g (map f (take a olds)) ++ map f (drop a olds) → f x ≡ g (f (get_or xs a d))
    → map f (set xs a x) ≡ map g (map f (take (a + 1) olds)) ++ map f (drop (a + 1) olds)
map_on f g olds xs a x d within is made =
    subst (λ n. map f (set xs a x) ≡ map g (map f (take n olds)) ++ map f (drop n olds)) (next a)
    (map_next f g olds xs a x d within is made)

drop_step : {A : Type 0} (xs : List A) (a : ℕ) (d : A) → a < length xs → drop a xs ≡ get_or xs a d ∷ drop (suc a) xs
drop_step [] a d within = absurd (omega arith)
drop_step (x ∷ xs) zero d within = refl
drop_step (x ∷ xs) (suc a) d within = drop_step xs a d (omega arith)

pub drop_next : {A : Type 0} (xs : List A) (a : ℕ) (d : A) → a < length xs → drop a xs ≡ get_or xs a d ∷ drop (a + 1) xs
drop_next xs a d within = subst (λ n. drop a xs ≡ get_or xs a d ∷ drop n xs) (next a) (drop_step xs a d within)
