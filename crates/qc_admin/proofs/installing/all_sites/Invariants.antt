use Rattle.std.proofs.Common.{◌≡◌, ◌-◌, ◌++◌}
use Rattle.std.specs.List.{range_with_len}
use Rattle.qc_epoch.specs.Vocabulary.{all_sites}
use Rattle.qc_admin.proofs.installing.all_sites.Given as goal

-- the sites so far, with those that are left, are all of them
abbrev pub invariant-loop-site : goal.invariant-loop-site
invariant-loop-site l = l.sites ++ range_with_len l.site (l.decl.sites - l.site) ≡ all_sites l.decl
