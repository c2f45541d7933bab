use Rattle.std.proofs.Common.{◌≡◌, ◌++◌, drop, map}
use Rattle.qc_epoch.specs.Vocabulary.{close_of}
use Rattle.qc_admin.proofs.closing.closes.Given as goal

-- the Closes so far, with those to the sites that are left, are all of them
abbrev pub invariant-loop-site : goal.invariant-loop-site
invariant-loop-site l = l.sends ++ map (close_of l.epoch) (drop l.site-index l.site-items) ≡ map
    (close_of l.epoch) l.sites
