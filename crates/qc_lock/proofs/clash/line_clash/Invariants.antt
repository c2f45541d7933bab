use Rattle.std.proofs.Common.{ℕ, ◌<◌}
use Rattle.qc_lock.specs.Vocabulary.{IsPlaced, IsSmallest}
use Rattle.qc_lock.proofs.clash.line_clash.Given as goal

abbrev pub invariant-invs : goal.invariant-invs
invariant-invs l = IsSmallest (λ d. (n : ℕ) × (n < l.number)
    × IsPlaced l.relation l.locks l.tx l.line.object n n l.line.event d) l.best
