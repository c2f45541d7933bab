use Rattle.std.proofs.Common.{◌≡◌, ◌++◌, drop, map}
use Rattle.qc_epoch.specs.Vocabulary.{install_of}
use Rattle.qc_admin.proofs.decided.installs.Given as goal

-- the Installs so far, with those to the sites that are left, are all of them
abbrev pub invariant-loop-site : goal.invariant-loop-site
invariant-loop-site l =
    l.sends ++ map (install_of l.start) (drop l.site-index l.site-items) ≡ map (install_of l.start) l.sites
