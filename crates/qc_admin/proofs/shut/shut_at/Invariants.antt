use Rattle.std.proofs.Common.{◌≡◌, drop}
use Rattle.qc_epoch.specs.Vocabulary.{shut_at}
use Rattle.qc_admin.specs.Vocabulary.{with_last}
use Rattle.qc_admin.proofs.shut.shut_at.Given as goal

abbrev pub invariant-shuts : goal.invariant-shuts
invariant-shuts l = shut_at (with_last (drop l.shut-index l.shut-items) l.last) l.site ≡ shut_at
    (with_last l.shuts l.last) l.site
