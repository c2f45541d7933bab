-- What an answer without a fault came from.
use Rattle.std.proofs.Common.{◌≡◌, ℕ, suc, ◌+◌, ◌≤◌, cond, List, [], ◌∷◌, ◌++◌, length, Option, Some, None, Ok, Err}
use Rattle.std.proofs.Common.{refl, subst, arith}
use Rattle.std.specs.Prelude.{All, option_map, option_and_then}
use Rattle.std.proofs.lemmas.List.Elements.{All-append, All-cons, All-nil}
use Rattle.std.proofs.lemmas.Option.{cond_some}
use Rattle.toml.specs.Data.{Data, Members, as_array}
use Rattle.qc_list.specs.Vocabulary.{◌>>=◌}
use Rattle.qc_accept.specs.Vocabulary.{Answer, each, items, items_between, listed, read_each, required, told}
use Rattle.qc_decl.specs.Vocabulary.{is_between}
use Rattle.qc_decl.proofs.Between.{between}

-- an answer of two steps: what the first gave
pub record Came {A B : Type 0} (answer : Answer A) (next : A → Answer B) (b : B) : Type 0 where
  pub value : A
  pub first : answer ≡ Ok value
  pub rest : next value ≡ Ok b

pub came : {A B : Type 0} (answer : Answer A) (next : A → Answer B) (b : B) → (answer >>= next) ≡ Ok b
    → Came answer next b
came (Ok a) next b is = record { value = a; first = refl; rest = is }
came (Err fault) next b is = absurd (let never : ⊥ = cc in never)

-- the same of what may be there
pub record Found {A B : Type 0} (o : Option A) (next : A → Option B) (b : B) : Type 0 where
  pub value : A
  pub first : o ≡ Some value
  pub rest : next value ≡ Some b

pub found : {A B : Type 0} (o : Option A) (next : A → Option B) (b : B) → option_and_then next o ≡ Some b
    → Found o next b
found (Some a) next b is = record { value = a; first = refl; rest = is }
found None next b is = absurd (let never : ⊥ = cc in never)

pub record Mapped {A B : Type 0} (o : Option A) (f : A → B) (b : B) : Type 0 where
  pub value : A
  pub first : o ≡ Some value
  pub rest : f value ≡ b

pub mapped : {A B : Type 0} (o : Option A) (f : A → B) (b : B) → option_map f o ≡ Some b → Mapped o f b
mapped (Some a) f b is = record { value = a; first = refl; rest = cc }
mapped None f b is = absurd (let never : ⊥ = cc in never)

-- a field of its form
pub told_some : {A : Type 0} (path : List ℕ) (o : Option A) (a : A) → told path o ≡ Ok a → o ≡ Some a
told_some path (Some x) a is = cc
told_some path None a is = absurd (let never : ⊥ = cc in never)

-- the answer is the value
pub same_ok : {A : Type 0} (x a : A) → (let answer : Answer A = Ok x in answer) ≡ Ok a → x ≡ a
same_ok x a is = cc

-- the number of items read counts up
pub each_keeps : {A B : Type 0} (P : ℕ → A → Type 0) (add : A → B → Answer A)
    → ((n : ℕ) (a : A) (b : B) (next : A) → P n a → add a b ≡ Ok next → P (suc n) next)
    → (n : ℕ) (a : A) (bs : List B) (last : A) → P n a → each add a bs ≡ Ok last → P (n + length bs) last
each_keeps P add keeps n a [] last holds is =
    subst (λ m. P m last) (let same : n ≡ n + 0 = omega arith in same) (subst (P n) (same_ok a last is) holds)
each_keeps P add keeps n a (b ∷ bs) last holds is =
    let c : Came (add a b) (λ next. each add next bs) last = came (add a b) (λ next. each add next bs) last is in
    subst (λ m. P m last) (let same : suc n + length bs ≡ n + length (b ∷ bs) = omega arith in same)
    (each_keeps P add keeps (suc n) c.value bs last (keeps n a b c.value holds c.first) c.rest)

pub read_each_keeps : {A B : Type 0} (P : ℕ → A → Type 0) (add : A → B → Option A)
    → ((n : ℕ) (a : A) (b : B) (next : A) → P n a → add a b ≡ Some next → P (suc n) next)
    → (n : ℕ) (a : A) (bs : List B) (last : A) → P n a → read_each add a bs ≡ Some last → P (n + length bs) last
read_each_keeps P add keeps n a [] last holds is =
    subst (λ m. P m last) (let same : n ≡ n + 0 = omega arith in same)
    (subst (P n) (let same : a ≡ last = cc in same) holds)
read_each_keeps P add keeps n a (b ∷ bs) last holds is =
    let c : Found (add a b) (λ next. read_each add next bs) last =
    found (add a b) (λ next. read_each add next bs) last is in
    subst (λ m. P m last) (let same : suc n + length bs ≡ n + length (b ∷ bs) = omega arith in same)
    (read_each_keeps P add keeps (suc n) c.value bs last (keeps n a b c.value holds c.first) c.rest)

-- an array that is there has so many items
pub so_many : (path : List ℕ) (table : Members) (key : List ℕ) (least most : ℕ) (ds : List Data)
    → items path table key least most ≡ Ok ds
    → (least ≤ length ds) × (length ds ≤ most)
so_many path table key least most ds is =
    let c : Came (required path table key) (λ d. told (path ++ key) (items_between least most d)) ds =
    came (required path table key) (λ d. told (path ++ key) (items_between least most d)) ds is in
    let f = found (as_array c.value) (λ ds. cond (is_between least most (length (listed ds))) (Some (listed ds)) None)
    ds
    (told_some (path ++ key) (items_between least most c.value) ds c.rest) in
    let t = cond_some (is_between least most (length (listed f.value))) (listed f.value) ds f.rest in
    subst (λ (xs : List Data). (least ≤ length xs) × (length xs ≤ most)) t.1
    (between least most (length (listed f.value)) t.0)

-- one more of the same kind
pub one_more : {A : Type 0} (P : A → Type 0) (xs : List A) (x : A) → All P xs → P x → All P (xs ++ x ∷ [])
one_more P xs x all here = All-append P xs (x ∷ []) all (All-cons P x [] here (All-nil P))
