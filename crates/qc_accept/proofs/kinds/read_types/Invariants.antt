use Rattle.std.proofs.Common.{◌≡◌, ◌≤◌, [], length, drop}
use Rattle.qc_decl.specs.Vocabulary.{most_types}
use Rattle.qc_accept.specs.Vocabulary.{data_of, each, types_in, with_type}
use Rattle.qc_accept.proofs.kinds.read_types.Given as goal

abbrev pub invariant-loop-item : goal.invariant-loop-item
invariant-loop-item l = record {
  read : each with_type (record { names = []; list = [] }) (data_of l.items) ≡ each with_type (types_in l.types)
      (drop l.item-index (data_of l.items));
  long : length (types_in l.types).names ≡ l.item-index;
  few : length l.items ≤ most_types;
}
