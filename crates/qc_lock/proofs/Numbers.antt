-- Entries under numbers are the list of them: what is put, found and taken by number is so by transaction.
use Rattle.std.proofs.Common.{[], ◌≡◌, ℕ, ◌<◌, ◌+◌, arith, Bool, true, false, cond, not, List, ◌∷◌, Option, Some, None}
use Rattle.std.proofs.Common.{Bor, refl, sym, ◌∙◌, ap, subst}
use Rattle.std.specs.BTreeMap.{insert_entry, is_at}
use Rattle.std.specs.Map.{keys_of, lookup, remove_entry, values_of}
use Rattle.std.specs.Option.{MatchOption, option_copied}
use Rattle.std.specs.Ordering.{is_eq, match_ordering, nat_cmp}
use Rattle.std.specs.declared.cmp.Ordering.{Ordering}
use Rattle.std.specs.declared.cmp.Ordering.TheVariants.{Less, Equal, Greater}
use Rattle.std.proofs.lemmas.Map.Keys.{sorted_tail}
use Rattle.qc_stamp.specs.declared.stamp.TxId.{TxId}
use Rattle.qc_lock.specs.Vocabulary.{AreBelow, AreOfOthers, IsOneForEach, number_of, one_of, put_one, without_one}
use Rattle.qc_lock.specs.TransactionMap.{same_tx}
use Rattle.qc_lock.proofs.NumberedEntries.{nat_self, below_greater, some_is, Rises, later, number_below, number_none}
use Rattle.qc_stamp.proofs.Orders.{same_tx_is}
use Rattle.qc_list.proofs.Options.{none_some}

-- an entry is put last, under the next number

first_other : {A : Type 0} (tx_of : A → TxId) (e : ℕ × A) (es : List (ℕ × A)) (tx : TxId)
    → number_of tx_of (e ∷ es) tx ≡ None → (same_tx (tx_of e.1) tx ≡ false) × (number_of tx_of es tx ≡ None)
first_other tx_of e es tx is = by (same_tx (tx_of e.1) tx) is where
  by : (t : Bool) → cond t (Some e.0) (number_of tx_of es tx) ≡ None → (t ≡ false) × (number_of tx_of es tx ≡ None)
  by true is = absurd (none_some e.0 (sym is))
  by false is = (refl, is)

pub values_new : {A : Type 0} (tx_of : A → TxId) (es : List (ℕ × A)) (h : A) (n : ℕ) → AreBelow n es
    → number_of tx_of es (tx_of h) ≡ None → values_of (insert_entry nat_cmp es n h) ≡ put_one tx_of (values_of es) h
values_new tx_of [] h n low is = refl
values_new tx_of (e ∷ es) h n low is =
    let none = first_other tx_of e es (tx_of h) is in
    ap (λ o. values_of (match_ordering o ((n, h) ∷ e ∷ es) ((e.0, h) ∷ es) (e ∷ insert_entry nat_cmp es n h)))
    (below_greater e.0 n low.0)
    ∙ ap (λ hs. e.1 ∷ hs) (values_new tx_of es h n low.1 none.1)
    ∙ ap (λ t. cond t (h ∷ values_of es) (e.1 ∷ put_one tx_of (values_of es) h)) (sym none.0)

-- the next number is nobody's
pub lookup_new : {A : Type 0} (es : List (ℕ × A)) (n : ℕ) → AreBelow n es → lookup (is_at (nat_cmp n)) es ≡ None
lookup_new [] n low = refl
lookup_new (e ∷ es) n low =
    ap (λ o. cond (is_eq o) (Some e.1) (lookup (is_at (nat_cmp n)) es)) (below_greater e.0 n low.0)
    ∙ lookup_new es n low.1

pub number_new : {A : Type 0} (tx_of : A → TxId) (es : List (ℕ × A)) (h : A) (n : ℕ) (tx : TxId) → AreBelow n es
    → number_of tx_of es (tx_of h) ≡ None
    → number_of tx_of (insert_entry nat_cmp es n h) tx ≡ cond (same_tx (tx_of h) tx) (Some n) (number_of tx_of es tx)
number_new tx_of [] h n tx low is = refl
number_new tx_of (e ∷ es) h n tx low is =
    ap (λ o. number_of tx_of (match_ordering o ((n, h) ∷ e ∷ es) ((e.0, h) ∷ es) (e ∷ insert_entry nat_cmp es n h)) tx)
    (below_greater e.0 n low.0)
    ∙ ap (cond (same_tx (tx_of e.1) tx) (Some e.0)) (number_new tx_of es h n tx low.1 none.1)
    ∙ by (same_tx (tx_of h) tx) refl where
      none : (same_tx (tx_of e.1) (tx_of h) ≡ false) × (number_of tx_of es (tx_of h) ≡ None)
      none = first_other tx_of e es (tx_of h) is

      by : (t : Bool) → same_tx (tx_of h) tx ≡ t
          → cond (same_tx (tx_of e.1) tx) (Some e.0) (cond t (Some n) (number_of tx_of es tx))
          ≡ cond t (Some n) (cond (same_tx (tx_of e.1) tx) (Some e.0) (number_of tx_of es tx))
      by true same =
          ap (λ t. cond t (Some e.0) (Some n))
          (subst (λ u. same_tx (tx_of e.1) u ≡ false) (same_tx_is (tx_of h) tx same) none.0)
      by false same = refl

pub below_more : {A : Type 0} (n : ℕ) (es : List (ℕ × A)) → AreBelow n es → AreBelow (n + 1) es
below_more n [] low = tt
below_more n (e ∷ es) low = (let first : e.0 < n = low.0 in omega (arith, first), below_more n es low.1)

pub below_put : {A : Type 0} (next : ℕ) (es : List (ℕ × A)) (n : ℕ) (h : A) → AreBelow next es → n < next
    → AreBelow next (insert_entry nat_cmp es n h)
below_put next [] n h low less = (less, tt)
below_put next (e ∷ es) n h low less = by (nat_cmp n e.0) (below_put next es n h low.1 less) where
  by : (o : Ordering) → AreBelow next (insert_entry nat_cmp es n h)
      → AreBelow next (match_ordering o ((n, h) ∷ e ∷ es) ((e.0, h) ∷ es) (e ∷ insert_entry nat_cmp es n h))
  by Less rest = (less, low)
  by Equal rest = (low.0, low.1)
  by Greater rest = (low.0, rest)

pub below_known : {A : Type 0} (tx_of : A → TxId) (next : ℕ) (es : List (ℕ × A)) (n : ℕ) (h : A) → AreBelow next es
    → number_of tx_of es (tx_of h) ≡ Some n → AreBelow next (insert_entry nat_cmp es n h)
below_known tx_of next es n h low is = below_put next es n h low (number_below tx_of next es (tx_of h) n low is)

-- an entry is taken

pub without_none : {A : Type 0} (tx_of : A → TxId) (hs : List A) (tx : TxId) → one_of tx_of hs tx ≡ None
    → without_one tx_of hs tx ≡ hs
without_none tx_of [] tx is = refl
without_none tx_of (h ∷ hs) tx is = by (same_tx (tx_of h) tx) (without_none tx_of hs tx) is where
  by : (t : Bool) → (one_of tx_of hs tx ≡ None → without_one tx_of hs tx ≡ hs)
      → cond t (Some h) (one_of tx_of hs tx) ≡ None
      → cond (not t) (h ∷ without_one tx_of hs tx) (without_one tx_of hs tx) ≡ h ∷ hs
  by true rest is = absurd (none_some h (sym is))
  by false rest is = ap (λ ks. h ∷ ks) (rest is)

apart_none : {A : Type 0} (tx_of : A → TxId) (hs : List A) (tx : TxId) → AreOfOthers tx_of tx hs
    → one_of tx_of hs tx ≡ None
apart_none tx_of [] tx apart = refl
apart_none tx_of (h ∷ hs) tx apart =
    ap (λ t. cond t (Some h) (one_of tx_of hs tx)) apart.0 ∙ apart_none tx_of hs tx apart.1

pub values_taken : {A : Type 0} (tx_of : A → TxId) (es : List (ℕ × A)) (tx : TxId) (n : ℕ) → Rises es
    → IsOneForEach tx_of (values_of es) → number_of tx_of es tx ≡ Some n
    → values_of (remove_entry (is_at (nat_cmp n)) es) ≡ without_one tx_of (values_of es) tx
values_taken tx_of [] tx n rises single is = absurd (none_some n is)
values_taken tx_of (e ∷ es) tx n rises single is =
    by (same_tx (tx_of e.1) tx) refl (values_taken tx_of es tx n (sorted_tail nat_cmp e.0 (keys_of es) rises) single.1)
    is where
      by : (t : Bool) → same_tx (tx_of e.1) tx ≡ t
          → (number_of tx_of es tx ≡ Some n
          → values_of (remove_entry (is_at (nat_cmp n)) es) ≡ without_one tx_of (values_of es) tx)
          → cond t (Some e.0) (number_of tx_of es tx) ≡ Some n
          → values_of (cond (is_eq (nat_cmp n e.0)) es (e ∷ remove_entry (is_at (nat_cmp n)) es))
          ≡ cond (not t) (e.1 ∷ without_one tx_of (values_of es) tx) (without_one tx_of (values_of es) tx)
      by true same rest is =
          let here : nat_cmp n e.0 ≡ Equal = subst (λ m. nat_cmp m e.0 ≡ Equal) (some_is 0 e.0 n is) (nat_self e.0) in
          let apart : AreOfOthers tx_of tx (values_of es) =
          subst (λ u. AreOfOthers tx_of u (values_of es)) (same_tx_is (tx_of e.1) tx same) single.0 in
          ap (λ o. values_of (cond (is_eq o) es (e ∷ remove_entry (is_at (nat_cmp n)) es))) here
          ∙ sym (without_none tx_of (values_of es) tx (apart_none tx_of (values_of es) tx apart))
      by false same rest is =
          ap (λ o. values_of (cond (is_eq o) es (e ∷ remove_entry (is_at (nat_cmp n)) es)))
          (later tx_of e es tx n rises is)
          ∙ ap (λ hs. e.1 ∷ hs) (rest is)

pub number_taken : {A : Type 0} (tx_of : A → TxId) (es : List (ℕ × A)) (tx : TxId) (n : ℕ) (other : TxId) → Rises es
    → IsOneForEach tx_of (values_of es) → number_of tx_of es tx ≡ Some n
    → number_of tx_of (remove_entry (is_at (nat_cmp n)) es) other
    ≡ cond (same_tx tx other) None (number_of tx_of es other)
number_taken tx_of [] tx n other rises single is = absurd (none_some n is)
number_taken tx_of (e ∷ es) tx n other rises single is =
    by (same_tx (tx_of e.1) tx) refl
    (number_taken tx_of es tx n other (sorted_tail nat_cmp e.0 (keys_of es) rises) single.1) is where
      gone : tx ≡ tx_of e.1 → (s : Bool) → same_tx tx other ≡ s
          → number_of tx_of es other ≡ cond s None (cond s (Some e.0) (number_of tx_of es other))
      gone same true is =
          number_none tx_of es other
          (apart_none tx_of (values_of es) other
          (subst (λ u. AreOfOthers tx_of u (values_of es)) (sym same ∙ same_tx_is tx other is) single.0))
      gone same false is = refl

      kept : same_tx (tx_of e.1) tx ≡ false → (s : Bool) → same_tx tx other ≡ s
          → cond (same_tx (tx_of e.1) other) (Some e.0) (cond s None (number_of tx_of es other))
          ≡ cond s None (cond (same_tx (tx_of e.1) other) (Some e.0) (number_of tx_of es other))
      kept apart true is =
          ap (λ t. cond t (Some e.0) None) (subst (λ u. same_tx (tx_of e.1) u ≡ false) (same_tx_is tx other is) apart)
      kept apart false is = refl

      by : (t : Bool) → same_tx (tx_of e.1) tx ≡ t
          → (number_of tx_of es tx ≡ Some n
          → number_of tx_of (remove_entry (is_at (nat_cmp n)) es) other
          ≡ cond (same_tx tx other) None (number_of tx_of es other))
          → cond t (Some e.0) (number_of tx_of es tx) ≡ Some n
          → number_of tx_of (cond (is_eq (nat_cmp n e.0)) es (e ∷ remove_entry (is_at (nat_cmp n)) es)) other
          ≡ cond (same_tx tx other) None (cond (same_tx (tx_of e.1) other) (Some e.0) (number_of tx_of es other))
      by true same rest is =
          let here : nat_cmp n e.0 ≡ Equal = subst (λ m. nat_cmp m e.0 ≡ Equal) (some_is 0 e.0 n is) (nat_self e.0) in
          let named : tx ≡ tx_of e.1 = sym (same_tx_is (tx_of e.1) tx same) in
          ap (λ o. number_of tx_of (cond (is_eq o) es (e ∷ remove_entry (is_at (nat_cmp n)) es)) other) here
          ∙ subst
          (λ u. number_of tx_of es other
          ≡ cond (same_tx tx other) None (cond (same_tx u other) (Some e.0) (number_of tx_of es other))) named
          (gone named (same_tx tx other) refl)
      by false same rest is =
          ap (λ o. number_of tx_of (cond (is_eq o) es (e ∷ remove_entry (is_at (nat_cmp n)) es)) other)
          (later tx_of e es tx n rises is)
          ∙ ap (cond (same_tx (tx_of e.1) other) (Some e.0)) (rest is)
          ∙ kept same (same_tx tx other) refl

pub below_taken : {A : Type 0} (next : ℕ) (test : ℕ → Bool) (es : List (ℕ × A)) → AreBelow next es
    → AreBelow next (remove_entry test es)
below_taken next test [] low = tt
below_taken next test (e ∷ es) low = by (test e.0) (below_taken next test es low.1) where
  by : (t : Bool) → AreBelow next (remove_entry test es) → AreBelow next (cond t es (e ∷ remove_entry test es))
  by true rest = low.1
  by false rest = (low.0, rest)

-- what is lent is what was looked up
pub lent : {A : Type 0} (o : Option (Bor A)) (found : Option A) → option_copied o ≡ found
    → MatchOption o (found ≡ None) (λ h. found ≡ Some h.now)
lent None found is = sym is
lent (Some h) found is = sym is
