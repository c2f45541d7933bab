use Rattle.std.proofs.Common.{◌≡◌, ◌+◌, drop}
use Rattle.qc_accept.specs.Vocabulary.{all_admitted}
use Rattle.qc_accept.proofs.checks.check_plans.Given as goal

abbrev pub invariant-loop-place : goal.invariant-loop-place
invariant-loop-place l = all_admitted l.decl 1 l.decl.plans ≡ all_admitted l.decl (l.place + 1)
    (drop l.place l.decl.plans)
