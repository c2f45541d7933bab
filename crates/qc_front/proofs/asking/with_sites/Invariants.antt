use Rattle.std.proofs.Common.{◌≡◌, drop, fold}
use Rattle.qc_msg.specs.Vocabulary.{with_site}
use Rattle.qc_front.proofs.asking.with_sites.Given as goal

-- the sites that are left lead from those so far to where all lead from the first
abbrev pub invariant-loop-site : goal.invariant-loop-site
invariant-loop-site l = fold with_site l.all (drop l.site-index l.site-items) ≡ fold with_site l.asked l.sites
