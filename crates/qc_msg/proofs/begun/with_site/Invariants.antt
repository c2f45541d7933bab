use Rattle.std.proofs.Common.{◌≡◌, ◌≤◌, ◌-◌, ◌++◌, length, drop}
use Rattle.qc_msg.specs.Vocabulary.{with_site}
use Rattle.qc_msg.proofs.begun.with_site.Given as goal

-- the sites so far, with those that are left, are all of them
abbrev pub invariant-sites : goal.invariant-sites
invariant-sites l = (l.i ≤ length l.sites)
    × (l.all.items ++ with_site (drop l.i l.sites) l.site ≡ with_site l.sites l.site)

abbrev pub decreases-sites : goal.decreases-sites
decreases-sites l = length l.sites - l.i
