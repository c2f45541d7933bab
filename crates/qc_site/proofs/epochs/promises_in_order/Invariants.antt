use Rattle.std.proofs.Common.{◌≡◌, ◌++◌}
use Rattle.std.specs.List.{filter_map}
use Rattle.qc_site.specs.Vocabulary.{prepared_of, promises_in_order}
use Rattle.qc_site.proofs.epochs.promises_in_order.Given as goal

abbrev pub invariant-transactions : goal.invariant-transactions
invariant-transactions l =
    (goal.iterator-transactions).can_next l.tx-iterator ×
    (goal.iterator-transactions).is_finite l.tx-iterator ×
    (l.list ++ filter_map (prepared_of l.promises) l.tx-iterator ≡ promises_in_order l.promises)
