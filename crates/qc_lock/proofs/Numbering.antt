-- Entries stay numbered as one is put, taken, or put in vain.
use Rattle.std.proofs.Common.{◌≡◌, ℕ, ◌+◌, arith, Bool, true, false, cond, Option, Some, None, refl, sym, ◌∙◌, ap}
use Rattle.std.proofs.Common.{subst, not}
use Rattle.std.specs.BTreeMap.{BTreeMap, get, insert_entry, is_at, values, IsOrdered}
use Rattle.std.specs.Map.{lookup, remove_entry, values_of}
use Rattle.std.specs.Ordering.{nat_cmp}
use Rattle.qc_stamp.specs.declared.stamp.TxId.{TxId}
use Rattle.qc_stamp.specs.Vocabulary.{tx_cmp}
use Rattle.qc_lock.specs.Vocabulary.{AreBelow, AreNumbered, IsOneForEach, number_of}
use Rattle.qc_lock.specs.TransactionMap.{same_tx}
use Rattle.qc_lock.proofs.Ones.{once-put, once-filter}
use Rattle.qc_lock.proofs.NumberedEntries.{tx_same, values_known, number_known}
use Rattle.qc_lock.proofs.Numbers.{below_known, values_new, number_new, below_more, below_put, values_taken}
use Rattle.qc_lock.proofs.Numbers.{number_taken, below_taken}
use Rattle.qc_stamp.proofs.Orders.{same_tx_is}

-- the map has this at one key, and what the other map has at others
abbrev pub Changes : BTreeMap TxId ℕ → BTreeMap TxId ℕ → TxId → Option ℕ → Type 0
Changes before after tx number = (q : TxId)
    → get tx_cmp after q ≡ cond (is_at (tx_cmp tx) q) number (get tx_cmp before q)

pub numbered_known : {A : Type 0} (tx_of : A → TxId) (m n : BTreeMap ℕ A) (numbers : BTreeMap TxId ℕ) (next : ℕ) (h : A)
    (k : ℕ)
    → AreNumbered tx_of m numbers next → IsOrdered nat_cmp n → n.entries ≡ insert_entry nat_cmp m.entries k h
    → number_of tx_of m.entries (tx_of h) ≡ Some k → AreNumbered tx_of n numbers next
numbered_known tx_of m n numbers next h k was ordered is known = record {
  ordered = ordered;
  single = subst (IsOneForEach tx_of) (sym (ap values_of is ∙ values_known tx_of m.entries h k was.ordered known))
      (once-put tx_of (values m) h was.single);
  known = λ tx. was.known tx ∙ sym (ap (λ es. number_of tx_of es tx) is
      ∙ number_known tx_of m.entries h k tx was.ordered known);
  below = subst (AreBelow next) (sym is) (below_known tx_of next m.entries k h was.below known);
}

pub numbered_new : {A : Type 0} (tx_of : A → TxId) (m n : BTreeMap ℕ A) (numbers after : BTreeMap TxId ℕ) (next : ℕ)
    (h : A)
    → AreNumbered tx_of m numbers next → IsOrdered nat_cmp n → n.entries ≡ insert_entry nat_cmp m.entries next h
    → number_of tx_of m.entries (tx_of h) ≡ None → Changes numbers after (tx_of h) (Some next)
    → AreNumbered tx_of n after (next + 1)
numbered_new tx_of m n numbers after next h was ordered is none changes = record {
  ordered = ordered;
  single = subst (IsOneForEach tx_of) (sym (ap values_of is ∙ values_new tx_of m.entries h next was.below none))
      (once-put tx_of (values m) h was.single);
  known = λ tx. changes tx ∙ ap (λ t. cond t (Some next) (get tx_cmp numbers tx)) (tx_same (tx_of h) tx)
      ∙ ap (cond (same_tx (tx_of h) tx) (Some next)) (was.known tx)
      ∙ sym (ap (λ es. number_of tx_of es tx) is ∙ number_new tx_of m.entries h next tx was.below none);
  below = subst (AreBelow (next + 1)) (sym is)
      (below_put (next + 1) m.entries next h (below_more next m.entries was.below) (omega arith));
}

-- a number that was given to a transaction without one, and taken back
pub numbered_again : {A : Type 0} (tx_of : A → TxId) (m n : BTreeMap ℕ A) (numbers given after : BTreeMap TxId ℕ)
    (next : ℕ) (tx : TxId)
    → AreNumbered tx_of m numbers next → IsOrdered nat_cmp n → n.entries ≡ m.entries
    → number_of tx_of m.entries tx ≡ None → Changes numbers given tx (Some next) → Changes given after tx None
    → AreNumbered tx_of n after next
numbered_again tx_of m n numbers given after next tx was ordered is none gives takes = record {
  ordered = ordered;
  single = subst (IsOneForEach tx_of) (sym (ap values_of is)) was.single;
  known = λ other. takes other ∙ ap (λ t. cond t None (get tx_cmp given other)) (tx_same tx other)
      ∙ by other (same_tx tx other) refl ∙ sym (ap (λ es. number_of tx_of es other) is);
  below = subst (AreBelow next) (sym is) was.below;
} where
  by : (other : TxId) (t : Bool) → same_tx tx other ≡ t
      → cond t None (get tx_cmp given other) ≡ number_of tx_of m.entries other
  by other true same = subst (λ u. None ≡ number_of tx_of m.entries u) (same_tx_is tx other same) (sym none)
  by other false same = gives other ∙ ap (λ t. cond t (Some next) (get tx_cmp numbers other)) (tx_same tx other ∙ same)
      ∙ was.known other

pub numbered_taken : {A : Type 0} (tx_of : A → TxId) (m n : BTreeMap ℕ A) (numbers after : BTreeMap TxId ℕ) (next : ℕ)
    (tx : TxId) (k : ℕ)
    → AreNumbered tx_of m numbers next → IsOrdered nat_cmp n → n.entries ≡ remove_entry (is_at (nat_cmp k)) m.entries
    → number_of tx_of m.entries tx ≡ Some k → Changes numbers after tx None → AreNumbered tx_of n after next
numbered_taken tx_of m n numbers after next tx k was ordered is known takes = record {
  ordered = ordered;
  single = subst (IsOneForEach tx_of) (sym
      (ap values_of is ∙ values_taken tx_of m.entries tx k was.ordered was.single known))
      (once-filter tx_of (λ h. not (same_tx (tx_of h) tx)) (values m) was.single);
  known = λ other. takes other ∙ ap (λ t. cond t None (get tx_cmp numbers other)) (tx_same tx other)
      ∙ ap (cond (same_tx tx other) None) (was.known other)
      ∙ sym (ap (λ es. number_of tx_of es other) is
      ∙ number_taken tx_of m.entries tx k other was.ordered was.single known);
  below = subst (AreBelow next) (sym is) (below_taken next (is_at (nat_cmp k)) m.entries was.below);
}

-- one that had no number and got none
pub numbered_same : {A : Type 0} (tx_of : A → TxId) (m : BTreeMap ℕ A) (numbers after : BTreeMap TxId ℕ) (next : ℕ)
    → AreNumbered tx_of m numbers next → after.entries ≡ numbers.entries → AreNumbered tx_of m after next
numbered_same tx_of m numbers after next was is = record {
  ordered = was.ordered;
  single = was.single;
  known = λ tx. ap (λ es. lookup (is_at (tx_cmp tx)) es) is ∙ was.known tx;
  below = was.below;
}
