-- Numbers in their ranges, fields above their floors, and items each above the one before.
use Rattle.std.proofs.Common.{◌≡◌, inl, inr, ℕ, ◌<◌, ◌≤◌, Bool, true, false, cond, ◌&&◌, nat_eq, nat_le, nat_lt, List}
use Rattle.std.proofs.Common.{[], ◌∷◌, Option, Some, None, refl, ap, ◌∙◌, arith}
use Rattle.std.proofs.lemmas.Bool.Decides.{nat_tests}
use Rattle.std.specs.List.{AllByRecursion as Every}
use Rattle.qc_record.specs.Vocabulary.{Form, IsWithin, Rises, climbs, is_above, is_at_least, items_are_legal, tied}
use Rattle.qc_record.specs.Vocabulary.{tops, within}
use Rattle.qc_record.proofs.Logs.{Rise}
use Rattle.qc_list.proofs.Booleans.{and_parts}
use Rattle.std.proofs.lemmas.Bool.{and_from}

-- ranges

pub ranged : (low high n : ℕ) → within low high n ≡ true → IsWithin low high n
ranged low high n e =
    let b = and_parts (nat_le low n) (nat_le n high) e in
    let l : nat_le low n ≡ true = b.0 in
    let h : nat_le n high ≡ true = b.1 in
    (grind (arith, nat_tests, l), grind (arith, nat_tests, h))

pub in_range : (low high n : ℕ) → IsWithin low high n → within low high n ≡ true
in_range low high n h =
    let l : low ≤ n = h.0 in
    let m : n ≤ high = h.1 in
    and_from (nat_le low n) (nat_le n high) (grind (arith, nat_tests, l)) (grind (arith, nat_tests, m))

pub at_most : (high n : ℕ) → n ≤ high → IsWithin 0 high n
at_most high n h = (omega arith, h)

pub climb_range : (low high n : ℕ) (floor : List ℕ) → climbs low high floor n ≡ true → IsWithin low high n
climb_range low high n floor e = ranged low high n (and_parts (within low high n) (is_at_least floor n) e).0

pub top_range : (low high n : ℕ) (floor : List ℕ) → tops low high floor n ≡ true → IsWithin low high n
top_range low high n floor e = ranged low high n (and_parts (within low high n) (is_above floor n) e).0

pub free_climb : (low high n : ℕ) → IsWithin low high n → climbs low high [] n ≡ true
free_climb low high n h = and_from (within low high n) true (in_range low high n h) refl

pub free_top : (low high n : ℕ) → IsWithin low high n → tops low high [] n ≡ true
free_top low high n h = and_from (within low high n) true (in_range low high n h) refl

-- floors

pub fall : {P : Type 0} (low high a b : ℕ) (floor : List ℕ) (test : List ℕ → Bool) → IsWithin low high b → Rise a b P
    → test [] ≡ true → (P → test floor ≡ true) → (climbs low high (a ∷ floor) b && test (tied (a ∷ floor) b)) ≡ true
fall low high a b floor test inside (inl h) free goes =
    let least : nat_le a b ≡ true = grind (arith, nat_tests, h) in
    let apart : nat_eq a b ≡ false = grind (arith, nat_tests, h) in
    and_from _ _ (and_from _ _ (in_range low high b inside) least)
    (ap (λ (t : Bool). test (cond t floor [])) apart ∙ free)
fall low high a b floor test inside (inr h) free goes =
    let same : a ≡ b = h.0 in
    let least : nat_le a b ≡ true = grind (arith, nat_tests, same) in
    let tie : nat_eq a b ≡ true = grind (arith, nat_tests, same) in
    and_from _ _ (and_from _ _ (in_range low high b inside) least)
    (ap (λ (t : Bool). test (cond t floor [])) tie ∙ goes h.1)

pub last : (low high a b : ℕ) → IsWithin low high b → a < b → tops low high (a ∷ []) b ≡ true
last low high a b inside h = let up : nat_lt a b ≡ true = grind (arith, nat_tests, h) in
    and_from _ _ (in_range low high b inside) up

pub last_of : (low high a b : ℕ) → tops low high (a ∷ []) b ≡ true → a < b
last_of low high a b e = let up : nat_lt a b ≡ true = (and_parts (within low high b) (nat_lt a b) e).1 in
    grind (arith, nat_tests, up)

-- items

pub each_of : {A : Type 0} (item : Option A → Form A) (Range : A → Type 0)
    → ((before : Option A) (x : A) → (item before).is_legal x ≡ true → Range x) → (before : Option A) (xs : List A)
    → items_are_legal item before xs ≡ true → Every Range xs
each_of item Range range before [] e = tt
each_of item Range range before (x ∷ xs) e = let b = and_parts _ _ e in
    (range before x b.0, each_of item Range range (Some x) xs b.1)

rises_from : {A : Type 0} (item : Option A → Form A) (Below : A → A → Type 0)
    → ((a x : A) → (item (Some a)).is_legal x ≡ true → Below a x) → (a : A) (xs : List A)
    → items_are_legal item (Some a) xs ≡ true → Rises Below (Some a) xs
rises_from item Below below a [] e = tt
rises_from item Below below a (x ∷ xs) e = let b = and_parts _ _ e in
    (below a x b.0, rises_from item Below below x xs b.1)

pub rises_of : {A : Type 0} (item : Option A → Form A) (Below : A → A → Type 0)
    → ((a x : A) → (item (Some a)).is_legal x ≡ true → Below a x) → (xs : List A) → items_are_legal item None xs ≡ true
    → Rises Below None xs
rises_of item Below below [] e = tt
rises_of item Below below (x ∷ xs) e = let b = and_parts _ _ e in (tt, rises_from item Below below x xs b.1)

legal_from : {A : Type 0} (item : Option A → Form A) (Range : A → Type 0) (Below : A → A → Type 0)
    → ((a x : A) → Range a → Range x → Below a x → (item (Some a)).is_legal x ≡ true) → (a : A) (xs : List A) → Range a
    → Every Range xs → Rises Below (Some a) xs → items_are_legal item (Some a) xs ≡ true
legal_from item Range Below next a [] range every rises = refl
legal_from item Range Below next a (x ∷ xs) range every rises =
    and_from _ _ (next a x range every.0 rises.0) (legal_from item Range Below next x xs every.0 every.1 rises.1)

pub legal_of : {A : Type 0} (item : Option A → Form A) (Range : A → Type 0) (Below : A → A → Type 0)
    → ((x : A) → Range x → (item None).is_legal x ≡ true)
    → ((a x : A) → Range a → Range x → Below a x → (item (Some a)).is_legal x ≡ true) → (xs : List A) → Every Range xs
    → Rises Below None xs → items_are_legal item None xs ≡ true
legal_of item Range Below first next [] every rises = refl
legal_of item Range Below first next (x ∷ xs) every rises =
    and_from _ _ (first x every.0) (legal_from item Range Below next x xs every.0 every.1 rises.1)
