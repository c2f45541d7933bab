use Rattle.std.proofs.Common.{◌≡◌}
use Rattle.qc_accept.specs.Vocabulary.{listed_in, thresholds}
use Rattle.qc_accept.proofs.epochs.Listed.of_object.Given as goal

abbrev pub invariant-loop-place : goal.invariant-loop-place
invariant-loop-place l = l.thresholds ≡ thresholds (listed_in l.self) l.object l.place
