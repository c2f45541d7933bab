use Rattle.std.proofs.Common.{◌≡◌, ℕ, drop, fold, max}
use Rattle.qc_epoch.specs.Vocabulary.{ShutSite}
use Rattle.qc_admin.proofs.deciding.latest.Given as goal

abbrev pub invariant-loop-shut : goal.invariant-loop-shut
invariant-loop-shut l =
    fold (λ (clock : ℕ) (s : ShutSite). max clock s.clock) l.latest (drop l.shut-index l.shut-items)
    ≡ fold (λ (clock : ℕ) (s : ShutSite). max clock s.clock) 0 l.shuts
