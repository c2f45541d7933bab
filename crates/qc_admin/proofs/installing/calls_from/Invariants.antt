use Rattle.std.proofs.Common.{◌≡◌, ◌+◌, ◌≤◌, ◌++◌, length, drop}
use Rattle.qc_msg.specs.Vocabulary.{calls_from}
use Rattle.qc_admin.proofs.installing.calls_from.Given as goal

-- the calls so far, with those to the sites that are left, are all of them
abbrev pub invariant-loop-site : goal.invariant-loop-site
invariant-loop-site l = record {
  all : l.calls ++ calls_from l.number (drop l.site-index l.site-items) ≡ calls_from l.first l.sites;
  few : length l.calls ≤ l.site-index;
  numbers : l.number ≤ l.first + l.site-index;
}
