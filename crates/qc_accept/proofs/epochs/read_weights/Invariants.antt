use Rattle.std.proofs.Common.{◌≡◌, [], drop}
use Rattle.qc_accept.specs.Vocabulary.{data_of, read_each, with_weight}
use Rattle.qc_accept.proofs.epochs.read_weights.Given as goal

abbrev pub invariant-loop-item : goal.invariant-loop-item
invariant-loop-item l = read_each with_weight [] (data_of l.items) ≡ read_each with_weight l.weights
    (drop l.item-index (data_of l.items))
