use Rattle.std.proofs.Common.{◌≡◌, ◌++◌, drop}
use Rattle.qc_epoch.specs.Vocabulary.{in_asked_order}
use Rattle.qc_admin.specs.Vocabulary.{with_last}
use Rattle.qc_admin.proofs.shut.in_asked_order.Given as goal

abbrev pub invariant-loop-site : goal.invariant-loop-site
invariant-loop-site l =
    l.ordered ++ in_asked_order (drop l.site-index l.asked) (with_last l.shuts l.last) ≡ in_asked_order l.asked
    (with_last l.shuts l.last)
