-- Entries under numbers: each is found by its number, and put under it.
use Rattle.std.proofs.Common.{[], ◌≡◌, ℕ, ◌<◌, arith, Bool, true, false, cond, List, ◌∷◌, Option, Some, None, refl, sym}
use Rattle.std.proofs.Common.{◌∙◌, ap, subst}
use Rattle.std.specs.BTreeMap.{insert_entry, is_at}
use Rattle.std.specs.Cmp.{IsTotalOrder}
use Rattle.std.specs.List.{AllByRecursion}
use Rattle.std.specs.List.Sorted.{IsStrictlySortedBy}
use Rattle.std.specs.Map.{keys_of, lookup, values_of}
use Rattle.std.specs.Prelude.{is_some}
use Rattle.std.specs.Ordering.{is_eq, match_ordering, nat_cmp, ordering_reverse}
use Rattle.std.specs.declared.cmp.Ordering.{Ordering}
use Rattle.std.specs.declared.cmp.Ordering.TheVariants.{Less, Equal, Greater}
use Rattle.std.proofs.lemmas.Bool.{false_from_ne_true, both_ways}
use Rattle.std.proofs.lemmas.Bool.Decides.{nat_tests}
use Rattle.std.proofs.lemmas.Cmp.{nat_cmp_total}
use Rattle.std.proofs.lemmas.Map.Keys.{sorted_head, sorted_tail}
use Rattle.qc_stamp.specs.declared.stamp.TxId.{TxId}
use Rattle.qc_stamp.specs.Vocabulary.{tx_cmp}
use Rattle.qc_stamp.proofs.Orders.{transactions_are_ordered, same_tx_itself, same_tx_is}
use Rattle.qc_lock.specs.Vocabulary.{AreBelow, number_of, one_of, put_one}
use Rattle.qc_lock.specs.TransactionMap.{same_tx}
use Rattle.qc_list.proofs.Options.{none_some}

-- orders

pub cmp_self : {A : Type 0} {cmp : A → A → Ordering} → IsTotalOrder cmp → (x : A) → cmp x x ≡ Equal
cmp_self {cmp = cmp} total x = by (cmp x x) refl where
  by : (o : Ordering) → cmp x x ≡ o → o ≡ Equal
  by Less is = let turned : cmp x x ≡ Greater = total.antisymm x x ∙ ap ordering_reverse is in absurd (cc)
  by Equal is = refl
  by Greater is = let turned : cmp x x ≡ Less = total.antisymm x x ∙ ap ordering_reverse is in absurd (cc)

pub equal_is : (o : Ordering) → is_eq o ≡ true → o ≡ Equal
equal_is Less h = absurd (let never : ⊥ = cc in never)
equal_is Equal h = refl
equal_is Greater h = absurd (let never : ⊥ = cc in never)

-- names compare as equal where the test of names says so
pub tx_same : (a b : TxId) → is_eq (tx_cmp a b) ≡ same_tx a b
tx_same a b = by (same_tx a b) refl where
  by : (t : Bool) → same_tx a b ≡ t → is_eq (tx_cmp a b) ≡ t
  by true is =
      subst (λ u. is_eq (tx_cmp a u) ≡ true) (same_tx_is a b is) (ap is_eq (cmp_self transactions_are_ordered.total a))
  by false is = false_from_ne_true (is_eq (tx_cmp a b)) (λ equal.
      both_ways (same_tx a b) is
      (subst (λ u. same_tx a u ≡ true) (transactions_are_ordered.apart a b (equal_is (tx_cmp a b) equal))
      (same_tx_itself a)))

pub nat_self : (n : ℕ) → nat_cmp n n ≡ Equal
nat_self n = cmp_self nat_cmp_total n

above : (k n : ℕ) → nat_cmp k n ≡ Less → nat_cmp n k ≡ Greater
above k n less = nat_cmp_total.antisymm n k ∙ ap ordering_reverse less

pub below_greater : (k n : ℕ) → k < n → nat_cmp n k ≡ Greater
below_greater k n less = grind (arith, nat_tests)

pub some_is : {A : Type 0} (d x y : A) → Some x ≡ Some y → x ≡ y
some_is {A = A} d x y h = ap part h where
  part : Option A → A
  part None = d
  part (Some z) = z

-- numbers of entries

abbrev pub Rises : {A : Type 0} → List (ℕ × A) → Type 0
Rises es = IsStrictlySortedBy nat_cmp (keys_of es)

number_above : {A : Type 0} (tx_of : A → TxId) (k : ℕ) (es : List (ℕ × A)) (tx : TxId) (n : ℕ)
    → AllByRecursion (λ y. nat_cmp k y ≡ Less) (keys_of es) → number_of tx_of es tx ≡ Some n → nat_cmp k n ≡ Less
number_above tx_of k [] tx n all is = absurd (none_some n is)
number_above tx_of k (e ∷ es) tx n all is = by (same_tx (tx_of e.1) tx) (number_above tx_of k es tx n all.1) is where
  by : (t : Bool) → (number_of tx_of es tx ≡ Some n → nat_cmp k n ≡ Less)
      → cond t (Some e.0) (number_of tx_of es tx) ≡ Some n → nat_cmp k n ≡ Less
  by true rest is = subst (λ m. nat_cmp k m ≡ Less) (some_is 0 e.0 n is) all.0
  by false rest is = rest is

-- the number of a later entry is above that of the first
pub later : {A : Type 0} (tx_of : A → TxId) (e : ℕ × A) (es : List (ℕ × A)) (tx : TxId) (n : ℕ) → Rises (e ∷ es)
    → number_of tx_of es tx ≡ Some n → nat_cmp n e.0 ≡ Greater
later tx_of e es tx n rises is =
    above e.0 n (number_above tx_of e.0 es tx n (sorted_head nat_cmp e.0 (keys_of es) rises) is)

pub number_below : {A : Type 0} (tx_of : A → TxId) (next : ℕ) (es : List (ℕ × A)) (tx : TxId) (n : ℕ) → AreBelow next es
    → number_of tx_of es tx ≡ Some n → n < next
number_below tx_of next [] tx n low is = absurd (none_some n is)
number_below tx_of next (e ∷ es) tx n low is =
    by (same_tx (tx_of e.1) tx) (number_below tx_of next es tx n low.1) is where
      by : (t : Bool) → (number_of tx_of es tx ≡ Some n → n < next) → cond t (Some e.0) (number_of tx_of es tx) ≡ Some n
          → n < next
      by true rest is = subst (λ m. m < next) (some_is 0 e.0 n is) low.0
      by false rest is = rest is

-- an entry is found by its number

pub entry_at : {A : Type 0} (tx_of : A → TxId) (es : List (ℕ × A)) (tx : TxId) (n : ℕ) → Rises es
    → number_of tx_of es tx ≡ Some n → lookup (is_at (nat_cmp n)) es ≡ one_of tx_of (values_of es) tx
entry_at tx_of [] tx n rises is = absurd (none_some n is)
entry_at tx_of (e ∷ es) tx n rises is =
    by (same_tx (tx_of e.1) tx) (entry_at tx_of es tx n (sorted_tail nat_cmp e.0 (keys_of es) rises)) is where
      by : (t : Bool)
          → (number_of tx_of es tx ≡ Some n → lookup (is_at (nat_cmp n)) es ≡ one_of tx_of (values_of es) tx)
          → cond t (Some e.0) (number_of tx_of es tx) ≡ Some n
          → cond (is_eq (nat_cmp n e.0)) (Some e.1) (lookup (is_at (nat_cmp n)) es)
          ≡ cond t (Some e.1) (one_of tx_of (values_of es) tx)
      by true rest is =
          let here : nat_cmp n e.0 ≡ Equal = subst (λ m. nat_cmp m e.0 ≡ Equal) (some_is 0 e.0 n is) (nat_self e.0) in
          ap (λ o. cond (is_eq o) (Some e.1) (lookup (is_at (nat_cmp n)) es)) here
      by false rest is =
          ap (λ o. cond (is_eq o) (Some e.1) (lookup (is_at (nat_cmp n)) es)) (later tx_of e es tx n rises is) ∙ rest is

pub entry_none : {A : Type 0} (tx_of : A → TxId) (es : List (ℕ × A)) (tx : TxId) → number_of tx_of es tx ≡ None
    → one_of tx_of (values_of es) tx ≡ None
entry_none tx_of [] tx is = refl
entry_none tx_of (e ∷ es) tx is = by (same_tx (tx_of e.1) tx) (entry_none tx_of es tx) is where
  by : (t : Bool) → (number_of tx_of es tx ≡ None → one_of tx_of (values_of es) tx ≡ None)
      → cond t (Some e.0) (number_of tx_of es tx) ≡ None → cond t (Some e.1) (one_of tx_of (values_of es) tx) ≡ None
  by true rest is = absurd (none_some e.0 (sym is))
  by false rest is = rest is

pub number_none : {A : Type 0} (tx_of : A → TxId) (es : List (ℕ × A)) (tx : TxId)
    → one_of tx_of (values_of es) tx ≡ None → number_of tx_of es tx ≡ None
number_none tx_of [] tx is = refl
number_none tx_of (e ∷ es) tx is = by (same_tx (tx_of e.1) tx) (number_none tx_of es tx) is where
  by : (t : Bool) → (one_of tx_of (values_of es) tx ≡ None → number_of tx_of es tx ≡ None)
      → cond t (Some e.1) (one_of tx_of (values_of es) tx) ≡ None → cond t (Some e.0) (number_of tx_of es tx) ≡ None
  by true rest is = absurd (none_some e.1 (sym is))
  by false rest is = rest is

-- a transaction with a number has an entry
pub has_number : {A : Type 0} (tx_of : A → TxId) (es : List (ℕ × A)) (tx : TxId)
    → is_some (number_of tx_of es tx) ≡ is_some (one_of tx_of (values_of es) tx)
has_number tx_of [] tx = refl
has_number tx_of (e ∷ es) tx = by (same_tx (tx_of e.1) tx) (has_number tx_of es tx) where
  by : (t : Bool) → is_some (number_of tx_of es tx) ≡ is_some (one_of tx_of (values_of es) tx)
      → is_some (cond t (Some e.0) (number_of tx_of es tx))
      ≡ is_some (cond t (Some e.1) (one_of tx_of (values_of es) tx))
  by true rest = refl
  by false rest = rest

-- an entry is put under its transaction's number

pub values_known : {A : Type 0} (tx_of : A → TxId) (es : List (ℕ × A)) (h : A) (n : ℕ) → Rises es
    → number_of tx_of es (tx_of h) ≡ Some n → values_of (insert_entry nat_cmp es n h) ≡ put_one tx_of (values_of es) h
values_known tx_of [] h n rises is = absurd (none_some n is)
values_known tx_of (e ∷ es) h n rises is =
    by (same_tx (tx_of e.1) (tx_of h)) (values_known tx_of es h n (sorted_tail nat_cmp e.0 (keys_of es) rises)) is where
      by : (t : Bool)
          → (number_of tx_of es (tx_of h) ≡ Some n
          → values_of (insert_entry nat_cmp es n h) ≡ put_one tx_of (values_of es) h)
          → cond t (Some e.0) (number_of tx_of es (tx_of h)) ≡ Some n
          → values_of
          (match_ordering (nat_cmp n e.0) ((n, h) ∷ e ∷ es) ((e.0, h) ∷ es) (e ∷ insert_entry nat_cmp es n h))
          ≡ cond t (h ∷ values_of es) (e.1 ∷ put_one tx_of (values_of es) h)
      by true rest is =
          let here : nat_cmp n e.0 ≡ Equal = subst (λ m. nat_cmp m e.0 ≡ Equal) (some_is 0 e.0 n is) (nat_self e.0) in
          ap (λ o. values_of (match_ordering o ((n, h) ∷ e ∷ es) ((e.0, h) ∷ es) (e ∷ insert_entry nat_cmp es n h)))
          here
      by false rest is =
          ap (λ o. values_of (match_ordering o ((n, h) ∷ e ∷ es) ((e.0, h) ∷ es) (e ∷ insert_entry nat_cmp es n h)))
          (later tx_of e es (tx_of h) n rises is) ∙ ap (λ hs. e.1 ∷ hs) (rest is)

pub number_known : {A : Type 0} (tx_of : A → TxId) (es : List (ℕ × A)) (h : A) (n : ℕ) (tx : TxId) → Rises es
    → number_of tx_of es (tx_of h) ≡ Some n → number_of tx_of (insert_entry nat_cmp es n h) tx ≡ number_of tx_of es tx
number_known tx_of [] h n tx rises is = absurd (none_some n is)
number_known tx_of (e ∷ es) h n tx rises is =
    by (same_tx (tx_of e.1) (tx_of h)) refl (number_known tx_of es h n tx (sorted_tail nat_cmp e.0 (keys_of es) rises))
    is where
      by : (t : Bool) → same_tx (tx_of e.1) (tx_of h) ≡ t
          → (number_of tx_of es (tx_of h) ≡ Some n
          → number_of tx_of (insert_entry nat_cmp es n h) tx ≡ number_of tx_of es tx)
          → cond t (Some e.0) (number_of tx_of es (tx_of h)) ≡ Some n
          → number_of tx_of
          (match_ordering (nat_cmp n e.0) ((n, h) ∷ e ∷ es) ((e.0, h) ∷ es) (e ∷ insert_entry nat_cmp es n h)) tx
          ≡ number_of tx_of (e ∷ es) tx
      by true same rest is =
          let here : nat_cmp n e.0 ≡ Equal = subst (λ m. nat_cmp m e.0 ≡ Equal) (some_is 0 e.0 n is) (nat_self e.0) in
          ap
          (λ o. number_of tx_of (match_ordering o ((n, h) ∷ e ∷ es) ((e.0, h) ∷ es) (e ∷ insert_entry nat_cmp es n h))
          tx) here
          ∙ ap (λ u. cond (same_tx u tx) (Some e.0) (number_of tx_of es tx))
          (sym (same_tx_is (tx_of e.1) (tx_of h) same))
      by false same rest is =
          ap
          (λ o. number_of tx_of (match_ordering o ((n, h) ∷ e ∷ es) ((e.0, h) ∷ es) (e ∷ insert_entry nat_cmp es n h))
          tx)
          (later tx_of e es (tx_of h) n rises is) ∙ ap (cond (same_tx (tx_of e.1) tx) (Some e.0)) (rest is)
