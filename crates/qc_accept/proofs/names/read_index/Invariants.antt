use Rattle.std.proofs.Common.{◌≡◌, [], drop}
use Rattle.qc_accept.specs.Vocabulary.{data_of, names_in, read_each, with_name}
use Rattle.qc_accept.proofs.names.read_index.Given as goal

abbrev pub invariant-loop-item : goal.invariant-loop-item
invariant-loop-item l = read_each with_name (names_in l.index) (drop l.item-index (data_of l.items))
    ≡ read_each with_name [] (data_of l.items)
