use Rattle.std.proofs.Common.{◌≡◌, replicate}
use Rattle.qc_view.specs.Vocabulary.{empty_view}
use Rattle.qc_front.proofs.transaction.empty_views.Given as goal

-- so far one for each object
abbrev pub invariant-loop-object : goal.invariant-loop-object
invariant-loop-object l = l.views ≡ replicate l._object empty_view
