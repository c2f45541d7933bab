use Rattle.std.proofs.Common.{◌≡◌, ◌++◌, drop, map}
use Rattle.qc_epoch.specs.Vocabulary.{ShutSite}
use Rattle.qc_admin.proofs.shut.sites_of.Given as goal

abbrev pub invariant-loop-shut : goal.invariant-loop-shut
invariant-loop-shut l =
    l.sites ++ map (λ (s : ShutSite). s.site) (drop l.shut-index l.shut-items) ≡ map (λ (s : ShutSite). s.site) l.shuts
