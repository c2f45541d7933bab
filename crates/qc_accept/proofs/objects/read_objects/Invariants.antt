use Rattle.std.proofs.Common.{◌≡◌, [], length, drop}
use Rattle.qc_accept.specs.Vocabulary.{data_of, each, names_in, objects_in, with_object}
use Rattle.qc_accept.proofs.objects.read_objects.Given as goal

abbrev pub invariant-loop-item : goal.invariant-loop-item
invariant-loop-item l = record {
  reads : each (with_object (names_in l.types.names)) (record { names = []; kinds = [] }) (data_of l.items)
      ≡ each (with_object (names_in l.types.names)) (objects_in l.objects) (drop l.item-index (data_of l.items));
  many : length (names_in l.objects.names) ≡ l.item-index;
}
