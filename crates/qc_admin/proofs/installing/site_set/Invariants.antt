use Rattle.std.proofs.Common.{◌≡◌, ◌+◌, drop}
use Rattle.qc_epoch.specs.Vocabulary.{site_set}
use Rattle.qc_admin.proofs.installing.site_set.Given as goal

abbrev pub invariant-loop-site : goal.invariant-loop-site
invariant-loop-site l = l.set + site_set (drop l.site-index l.site-items) ≡ site_set l.sites
