use Rattle.std.proofs.Common.{◌≡◌, ◌-◌, ◌++◌, map}
use Rattle.std.specs.List.{range_with_len}
use Rattle.qc_plan.specs.Vocabulary.{weighing}
use Rattle.qc_plan.specs.declared.standing.Asked.{Asked}
use Rattle.qc_plan.proofs.asked.push_weighing.Given as goal

abbrev pub invariant-loop-site : goal.invariant-loop-site
invariant-loop-site l =
    map (λ (a : Asked). a.site) l.sites.items ++ weighing l.weights (range_with_len l.site (l.end - l.site))
    ≡ map (λ (a : Asked). a.site) l.initial.sites.items ++ weighing l.weights (range_with_len l.first (l.end - l.first))
