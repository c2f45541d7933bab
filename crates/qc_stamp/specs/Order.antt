-- The orders of stamps and of transactions: the first part that differs decides.
use Rattle.std.specs.Prelude.{◌≡◌, Bool, ◌==◌, ◌&&◌}
use Rattle.std.specs.Cmp.{IsTotalOrder}
use Rattle.std.specs.Ordering.{nat_cmp, on, then_cmp}
use Rattle.std.specs.declared.cmp.Ordering.{Ordering}
use Rattle.std.specs.declared.cmp.Ordering.TheVariants.{Equal}
use Rattle.qc_stamp.specs.declared.stamp.Stamp.{Stamp}
use Rattle.qc_stamp.specs.declared.stamp.TxId.{TxId}

-- stamps by clock, then client (Lamport 1978)
abbrev pub stamp_cmp : Stamp → Stamp → Ordering
stamp_cmp = then_cmp (on (λ s. s.clock) nat_cmp) (on (λ s. s.client) nat_cmp)

-- transactions by client, life, number
abbrev pub tx_cmp : TxId → TxId → Ordering
tx_cmp = then_cmp (on (λ t. t.client) nat_cmp) (then_cmp (on (λ t. t.life) nat_cmp) (on (λ t. t.number) nat_cmp))

-- whether two names are of one transaction
abbrev pub same_tx : TxId → TxId → Bool
same_tx a b = (a.client == b.client) && ((a.life == b.life) && (a.number == b.number))

-- a total order that tells different values apart
pub record IsOrder {K : Type 0} (cmp : K → K → Ordering) : Type 0 where
  pub total : IsTotalOrder cmp
  pub apart : (a b : K) → cmp a b ≡ Equal → a ≡ b
