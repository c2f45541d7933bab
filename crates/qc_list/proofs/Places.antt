-- Lists by place: what stands at one, and with another item there.
use Rattle.std.proofs.Common.{◌≡◌, ℕ, zero, suc, ◌<◌, List, [], ◌∷◌, length, Some, arith, slice_get, refl, ◌++◌, ◌+◌}
use Rattle.std.proofs.Common.{ap, get_or, drop, sym, ◌∙◌, Bool, true, false}
use Rattle.std.specs.Prelude.{replicate, slice_set}
use Rattle.std.specs.List.{AllByRecursion as Every}
use Rattle.std.proofs.lemmas.List.{drop_more}

pub place_within : {A : Type 0} (xs : List A) (n : ℕ) (x : A) → slice_get xs n ≡ Some x → n < length xs
place_within [] n x is = absurd (let no : ⊥ = cc in no)
place_within (y ∷ ys) zero x is = omega arith
place_within (y ∷ ys) (suc n) x is = let rest : n < length ys = place_within ys n x is in omega arith

pub some_at : {A : Type 0} (xs : List A) (k : ℕ) → k < length xs → (x : A) × (slice_get xs k ≡ Some x)
some_at [] k within = absurd (omega arith)
some_at (x ∷ xs) zero within = (x, refl)
some_at (x ∷ xs) (suc k) within = some_at xs k (omega arith)

pub replicate_at : {X : Type 0} (n a : ℕ) (x y : X) → slice_get (replicate n x) a ≡ Some y → y ≡ x
replicate_at zero a x y is = absurd (let never : ⊥ = cc in never)
replicate_at (suc n) zero x y is = let same : y ≡ x = cc in same
replicate_at (suc n) (suc a) x y is = replicate_at n a x y is

pub slice_get-more : {X : Type 0} (xs ys : List X) (n : ℕ) (x : X) → slice_get xs n ≡ Some x
    → slice_get (xs ++ ys) n ≡ Some x
slice_get-more [] ys n x is = absurd (let never : ⊥ = cc in never)
slice_get-more (y ∷ xs) ys zero x is = is
slice_get-more (y ∷ xs) ys (suc n) x is = slice_get-more xs ys n x is

pub slice_get-seam : {X : Type 0} (xs ys : List X) (x : X) → slice_get (xs ++ x ∷ ys) (length xs) ≡ Some x
slice_get-seam [] ys x = refl
slice_get-seam (y ∷ xs) ys x = slice_get-seam xs ys x

pub length-slice_set : {X : Type 0} (xs : List X) (a : ℕ) (v : X) → length (slice_set xs a v) ≡ length xs
length-slice_set [] a v = refl
length-slice_set (x ∷ xs) zero v = refl
length-slice_set (x ∷ xs) (suc a) v = ap suc (length-slice_set xs a v)

pub slice_get-set_other : {X : Type 0} (xs : List X) (b a : ℕ) (v : X) → (b ≡ a → ⊥)
    → slice_get (slice_set xs b v) a ≡ slice_get xs a
slice_get-set_other [] b a v other = refl
slice_get-set_other (x ∷ xs) zero zero v other = absurd (other refl)
slice_get-set_other (x ∷ xs) zero (suc a) v other = refl
slice_get-set_other (x ∷ xs) (suc b) zero v other = refl
slice_get-set_other (x ∷ xs) (suc b) (suc a) v other = slice_get-set_other xs b a v (λ same. other (ap suc same))

pub slice_get-set_same : {X : Type 0} (xs : List X) (a : ℕ) (v w : X) → slice_get xs a ≡ Some w
    → slice_get (slice_set xs a v) a ≡ Some v
slice_get-set_same [] a v w there = absurd (let never : ⊥ = cc in never)
slice_get-set_same (x ∷ xs) zero v w there = refl
slice_get-set_same (x ∷ xs) (suc a) v w there = slice_get-set_same xs a v w there

pub every-set : {A : Type 0} (P : A → Type 0) (xs : List A) (i : ℕ) (y : A) → P y → Every P xs
    → Every P (slice_set xs i y)
every-set P [] i y here all = tt
every-set P (x ∷ xs) zero y here all = (here, all.1)
every-set P (x ∷ xs) (suc i) y here all = (all.0, every-set P xs i y here all.1)

pub drop_at : {A : Type 0} (xs : List A) (i : ℕ) (x d : A) → i < length xs → x ≡ get_or xs i d
    → drop i xs ≡ x ∷ drop (i + 1) xs
drop_at xs i x d l e = drop_more xs i d l ∙ ap (λ y. y ∷ drop (i + 1) xs) (sym e)

pub all_false : (bs : List Bool) → ((a : ℕ) → slice_get bs a ≡ Some true → ⊥) → bs ≡ replicate (length bs) false
all_false [] none = refl
all_false (true ∷ bs) none = absurd (none 0 refl)
all_false (false ∷ bs) none = ap (λ (v : List Bool). false ∷ v) (all_false bs (λ a is. none (suc a) is))
