use Rattle.std.proofs.Common.{◌≡◌, ◌≤◌, ◌*◌, take}
use Rattle.qc_plan.specs.Vocabulary.{total}
use Rattle.qc_plan.proofs.quorum.total.Given as goal

abbrev pub invariant-loop-weight : goal.invariant-loop-weight
invariant-loop-weight l = record {
  so_far : l.sum ≡ total (take l.weight-index l.weights);
  few : l.sum ≤ 255 * l.weight-index;
}
