-- Locks and own lines that ascend rise, as records have them, and the other way round; own lines that rise within 1 to
-- 16 are at most 16.
use Rattle.std.proofs.Common.{◌≡◌, ◌⊎◌, ℕ, ◌+◌, ◌<◌, ◌≤◌, nat_eq, nat_lt, Bool, true, false, List, [], ◌∷◌, length}
use Rattle.std.proofs.Common.{Some, None, inl, inr, refl, sym, ap, ◌∙◌, arith}
use Rattle.std.proofs.lemmas.Bool.Decides.{nat_tests}
use Rattle.std.specs.List.{AllByRecursion as Every}
use Rattle.std.specs.Ordering.{nat_cmp, ordering_then}
use Rattle.std.specs.declared.cmp.Ordering.{Ordering}
use Rattle.std.specs.declared.cmp.Ordering.TheVariants.{Greater, Less}
use Rattle.qc_entry.specs.declared.line.OwnLine.{OwnLine}
use Rattle.qc_entry.specs.declared.line.ReadLock.{ReadLock}
use Rattle.qc_list.specs.Vocabulary.{Ascends, IsBelowAll}
use Rattle.qc_lock.specs.Vocabulary.{lock_cmp, own_cmp}
use Rattle.qc_record.specs.Vocabulary.{IsLockBelow, IsOwn, IsOwnBelow, Rises}
use Rattle.qc_list.proofs.Numbers.{below_from_cmp, cmp_below, cmp_same, cmp_above}

module _ {A : Type 0} (cmp : A → A → Ordering) (Below : A → A → Type 0) where
  -- where the order tells what is below

  rises_from : ((a b : A) → cmp a b ≡ Less → Below a b) → (x : A) (xs : List A) → IsBelowAll cmp x xs → Ascends cmp xs
      → Rises Below (Some x) xs
  rises_from tells x [] low ascend = tt
  rises_from tells x (y ∷ ys) low ascend = (tells x y low.0, rises_from tells y ys ascend.0 ascend.1)

  pub rises : ((a b : A) → cmp a b ≡ Less → Below a b) → (xs : List A) → Ascends cmp xs → Rises Below None xs
  rises tells [] ascend = tt
  rises tells (x ∷ xs) ascend = (tt, rises_from tells x xs ascend.0 ascend.1)

  -- and where it is told by that

  below_all : ((a b : A) → Below a b → cmp a b ≡ Less) → ((a b c : A) → Below a b → Below b c → Below a c)
      → (x : A) (xs : List A) → Rises Below (Some x) xs → IsBelowAll cmp x xs
  below_all told further x [] up = tt
  below_all told further x (y ∷ ys) up = (told x y up.0, below_all told further x ys (from ys up.1))
    where
      from : (ys : List A) → Rises Below (Some y) ys → Rises Below (Some x) ys
      from [] up_y = tt
      from (z ∷ zs) up_y = (further x y z up.0 up_y.0, up_y.1)

  ascends_from : ((a b : A) → Below a b → cmp a b ≡ Less) → ((a b c : A) → Below a b → Below b c → Below a c)
      → (x : A) (xs : List A) → Rises Below (Some x) xs → Ascends cmp (x ∷ xs)
  ascends_from told further x [] up = (tt, tt)
  ascends_from told further x (y ∷ ys) up =
      (below_all told further x (y ∷ ys) up, ascends_from told further y ys up.1)

  pub ascends : ((a b : A) → Below a b → cmp a b ≡ Less) → ((a b c : A) → Below a b → Below b c → Below a c)
      → (xs : List A) → Rises Below None xs → Ascends cmp xs
  ascends told further [] up = tt
  ascends told further (x ∷ xs) up = ascends_from told further x xs up.1

-- numbers

-- the first part that differs decides
first_differs : (a b : ℕ) (o : Ordering) → ordering_then (nat_cmp a b) o ≡ Less
    → (a < b) ⊎ ((a ≡ b) × (o ≡ Less))
first_differs a b o is = by (nat_lt a b) (nat_eq a b) refl refl
  where
    by : (t u : Bool) → nat_lt a b ≡ t → nat_eq a b ≡ u → (a < b) ⊎ ((a ≡ b) × (o ≡ Less))
    by true u low tie = (let below : a < b = grind (arith, nat_tests, low) in inl below)
    by false true low tie =
        (let same : a ≡ b = grind (arith, nat_tests, tie) in
        inr (same, sym (ap (λ (x : Ordering). ordering_then x o) (cmp_same a b same)) ∙ is))
    by false false low tie =
        let over : b < a = grind (arith, nat_tests, low, tie) in
        let no : Greater ≡ Less = sym (ap (λ (x : Ordering). ordering_then x o) (cmp_above a b over)) ∙ is in
        absurd cc

-- locks

lock_tells : (a b : ReadLock) → lock_cmp a b ≡ Less → IsLockBelow a b
lock_tells a b is = by (first_differs a.object b.object (nat_cmp a.inv b.inv) is)
  where
    by : (a.object < b.object) ⊎ ((a.object ≡ b.object) × (nat_cmp a.inv b.inv ≡ Less)) → IsLockBelow a b
    by (inl low) = inl low
    by (inr tie) = inr (tie.0, below_from_cmp a.inv b.inv tie.1)

lock_told : (a b : ReadLock) → IsLockBelow a b → lock_cmp a b ≡ Less
lock_told a b (inl low) =
    ap (λ (o : Ordering). ordering_then o (nat_cmp a.inv b.inv)) (cmp_below a.object b.object low)
lock_told a b (inr tie) =
    ap (λ (o : Ordering). ordering_then o (nat_cmp a.inv b.inv)) (cmp_same a.object b.object tie.0)
    ∙ cmp_below a.inv b.inv tie.1

lock_further : (a b c : ReadLock) → IsLockBelow a b → IsLockBelow b c → IsLockBelow a c
lock_further a b c (inl low) (inl more) = (let below : a.object < c.object = omega (arith, low, more) in inl below)
lock_further a b c (inl low) (inr tie) =
    (let same : b.object ≡ c.object = tie.0 in let below : a.object < c.object = omega (arith, low, same) in inl below)
lock_further a b c (inr tie) (inl more) =
    (let same : a.object ≡ b.object = tie.0 in let below : a.object < c.object = omega (arith, more, same) in inl below)
lock_further a b c (inr tie) (inr more) =
    (let low : a.inv < b.inv = tie.1 in
    let next : b.inv < c.inv = more.1 in
    inr (tie.0 ∙ more.0, (let below : a.inv < c.inv = omega (arith, low, next) in below)))

pub locks_rise : (locks : List ReadLock) → Ascends lock_cmp locks → Rises IsLockBelow None locks
locks_rise locks ascend = rises lock_cmp IsLockBelow lock_tells locks ascend

pub locks_ascend : (locks : List ReadLock) → Rises IsLockBelow None locks → Ascends lock_cmp locks
locks_ascend locks up = ascends lock_cmp IsLockBelow lock_told lock_further locks up

-- own lines

pub owns_rise : (own : List OwnLine) → Ascends own_cmp own → Rises IsOwnBelow None own
owns_rise own ascend = rises own_cmp IsOwnBelow (λ a b is. below_from_cmp a.op b.op is) own ascend

pub owns_ascend : (own : List OwnLine) → Rises IsOwnBelow None own → Ascends own_cmp own
owns_ascend own up =
    ascends own_cmp IsOwnBelow (λ a b low. cmp_below a.op b.op low)
    (λ a b c low more.
    (let first : a.op < b.op = low in let second : b.op < c.op = more in omega (arith, first, second)))
    own up

few_above : (o : OwnLine) (own : List OwnLine) → IsOwn o → Every IsOwn own → Rises IsOwnBelow (Some o) own
    → o.op + length own ≤ 16
few_above o [] here all up = (let high : o.op ≤ 16 = here.op.1 in omega (arith, high))
few_above o (p ∷ own) here all up =
    let rest : p.op + length own ≤ 16 = few_above p own all.0 all.1 up.1 in
    let low : o.op < p.op = up.0 in
    omega (arith, rest, low)

pub few_owns : (own : List OwnLine) → Every IsOwn own → Rises IsOwnBelow None own → length own ≤ 16
few_owns [] all up = omega arith
few_owns (o ∷ own) all up =
    let rest : o.op + length own ≤ 16 = few_above o own all.0 all.1 up.1 in
    let least : 1 ≤ o.op = all.0.op.0 in
    omega (arith, rest, least)
