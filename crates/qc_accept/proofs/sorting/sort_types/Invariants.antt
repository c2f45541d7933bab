use Rattle.std.proofs.Common.{◌≡◌, length, map, take}
use Rattle.std.specs.List.{zip}
use Rattle.qc_accept.specs.Vocabulary.{names_in}
use Rattle.qc_accept.proofs.Sorted.{kind_in, triples_in, names_in_pair}
use Rattle.qc_accept.proofs.sorting.sort_types.Given as goal

abbrev pub invariant-loop-read : goal.invariant-loop-read
invariant-loop-read l = record {
  kinds : l.sorted.kinds ≡ map kind_in (take (length l.yielded)
      (zip l.fn.types.list.items (names_in l.fn.types.names)));
  names : l.sorted.names ≡ map names_in_pair
      (take (length l.yielded) (zip l.fn.types.list.items (names_in l.fn.types.names)));
  triples : l.sorted.triples ≡ map triples_in
      (take (length l.yielded) (zip l.fn.types.list.items (names_in l.fn.types.names)));
}
