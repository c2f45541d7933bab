use Rattle.std.proofs.Common.{◌≡◌, drop}
use Rattle.qc_accept.specs.Vocabulary.{data_of, entries_in, listed_in, read_each, store_in, with_item}
use Rattle.qc_accept.proofs.epochs.read_listed.Given as goal

abbrev pub invariant-loop-item : goal.invariant-loop-item
invariant-loop-item l =
    entries_in (store_in l.store) l.side (data_of l.items)
    ≡ read_each (with_item (store_in l.store) l.side) (listed_in l.listed) (drop l.item-index (data_of l.items))
