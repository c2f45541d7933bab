use Rattle.std.proofs.Common.{◌≡◌, ◌<◌, ◌≤◌, ◌^◌, ℕ, true}
use Rattle.qc_lock.specs.Vocabulary.{IsPlaced, IsSmallest}
use Rattle.qc_lock.proofs.Lowest.{Passed}
use Rattle.qc_table.specs.Vocabulary.{has}
use Rattle.qc_lock.proofs.clash.read_clash.Given as goal

abbrev pub invariant-turns : goal.invariant-turns
invariant-turns l = record {
  small : l.rest < 2 ^ 64;
  left : (k : ℕ) → has l.rest k ≡ true → l._turn ≤ k;
  best : IsSmallest (Passed (λ n d. IsPlaced l.relation l.lines l.tx l.object n l.inv n d) l.rest) l.best;
}
