-- The orders of stamps and transactions are total, and Equal only at one value; the test of names tells equal names.
use Rattle.std.proofs.Common.{◌≡◌, ℕ, Bool, true, false, refl, sym, subst, arith}
use Rattle.std.specs.Prelude.{◌==◌, ◌&&◌}
use Rattle.std.proofs.lemmas.Bool.{eq-eqb, eqb-true, and_parts}
use Rattle.std.proofs.lemmas.Bool.Decides.{nat_tests}
use Rattle.std.proofs.lemmas.Cmp.{then_total, on_total, nat_cmp_total}
use Rattle.std.specs.Ordering.{nat_cmp, ordering_then}
use Rattle.std.specs.declared.cmp.Ordering.{Ordering}
use Rattle.std.specs.declared.cmp.Ordering.TheVariants.{Less, Equal, Greater}
use Rattle.qc_stamp.specs.declared.stamp.Stamp.{Stamp}
use Rattle.qc_stamp.specs.declared.stamp.TxId.{TxId}
use Rattle.qc_stamp.specs.Vocabulary.{IsOrder, same_tx, stamp_cmp, tx_cmp}

-- a pair of answers is Equal only where both are
pub first_Equal : (a b : Ordering) → ordering_then a b ≡ Equal → a ≡ Equal
first_Equal Less b h = h
first_Equal Equal b h = refl
first_Equal Greater b h = h

pub second_Equal : (a b : Ordering) → ordering_then a b ≡ Equal → b ≡ Equal
second_Equal Less b h = absurd (let never : ⊥ = cc in never)
second_Equal Equal b h = h
second_Equal Greater b h = absurd (let never : ⊥ = cc in never)

pub nat_apart : (a b : ℕ) → nat_cmp a b ≡ Equal → a ≡ b
nat_apart a b h = grind (arith, nat_tests)

pub stamps_are_ordered : IsOrder stamp_cmp
stamps_are_ordered = record {
  total = then_total (on_total (λ (s : Stamp). s.clock) nat_cmp_total)
      (on_total (λ (s : Stamp). s.client) nat_cmp_total);
  apart = λ a b h.
      let clock : a.clock ≡ b.clock = nat_apart _ _ (first_Equal _ _ h) in
      let client : a.client ≡ b.client = nat_apart _ _ (second_Equal (nat_cmp a.clock b.clock) _ h) in
      λ i. record { clock = clock i; client = client i };
}

pub transactions_are_ordered : IsOrder tx_cmp
transactions_are_ordered = record {
  total = then_total (on_total (λ (t : TxId). t.client) nat_cmp_total)
      (then_total (on_total (λ (t : TxId). t.life) nat_cmp_total) (on_total (λ (t : TxId). t.number) nat_cmp_total));
  apart = λ a b h.
      let rest : ordering_then (nat_cmp a.life b.life) (nat_cmp a.number b.number) ≡ Equal =
      second_Equal (nat_cmp a.client b.client) _ h in
      let client : a.client ≡ b.client = nat_apart _ _ (first_Equal _ _ h) in
      let life : a.life ≡ b.life = nat_apart _ _ (first_Equal _ _ rest) in
      let number : a.number ≡ b.number = nat_apart _ _ (second_Equal (nat_cmp a.life b.life) _ rest) in
      λ i. record { client = client i; life = life i; number = number i };
}

-- a name is of its own transaction
pub same_tx_itself : (tx : TxId) → same_tx tx tx ≡ true
same_tx_itself tx = rw (eq-eqb tx.client tx.client refl, eq-eqb tx.life tx.life refl, eq-eqb tx.number tx.number refl)
    refl

-- names of one transaction are equal
pub same_tx_is : (a b : TxId) → same_tx a b ≡ true → a ≡ b
same_tx_is a b h =
    let parts = and_parts (a.client == b.client) ((a.life == b.life) && (a.number == b.number)) h in
    let rest = and_parts (a.life == b.life) (a.number == b.number) parts.1 in
    let client : a.client ≡ b.client = eqb-true a.client b.client parts.0 in
    let life : a.life ≡ b.life = eqb-true a.life b.life rest.0 in
    let number : a.number ≡ b.number = eqb-true a.number b.number rest.1 in
    λ i. record { client = client i; life = life i; number = number i }

-- names of two transactions differ either way round
pub other_tx_sym : (a b : TxId) → same_tx a b ≡ false → same_tx b a ≡ false
other_tx_sym a b h = by (same_tx b a) refl where
  by : (t : Bool) → same_tx b a ≡ t → t ≡ false
  by true is =
      let same : same_tx a b ≡ true = subst (λ u. same_tx a u ≡ true) (sym (same_tx_is b a is)) (same_tx_itself a) in
      absurd (let never : ⊥ = cc in never)
  by false is = refl

pub same_tx_test : (a b : TxId) → a ≡ b → same_tx a b ≡ true
same_tx_test a b e = subst (λ (x : TxId). same_tx a x ≡ true) e (same_tx_itself a)

pub same_tx_turned : (a b : TxId) → same_tx a b ≡ same_tx b a
same_tx_turned a b = by (same_tx a b) refl
  where
    by : (t : Bool) → same_tx a b ≡ t → t ≡ same_tx b a
    by true is = sym (subst (λ (u : TxId). same_tx u a ≡ true) (same_tx_is a b is) (same_tx_itself a))
    by false is = sym (other_tx_sym a b is)
