use Rattle.std.proofs.Common.{◌≡◌, ◌<◌, ◌++◌, map, take}
use Rattle.std.specs.List.{AllByRecursion as Every}
use Rattle.qc_decl.specs.Vocabulary.{most_clients}
use Rattle.qc_stamp.specs.declared.stamp.TxId.{TxId}
use Rattle.qc_recover.specs.Vocabulary.{inquiries, inquiry}
use Rattle.qc_recover.proofs.site.inquiries.Given as goal

abbrev pub invariant-transactions : goal.invariant-transactions
invariant-transactions l =
    (goal.iterator-transactions).can_next l.tx-iterator ×
    (goal.iterator-transactions).is_finite l.tx-iterator ×
    (l.sends ++ map (inquiry l.decl) (take l.left l.tx-iterator) ≡ inquiries l.decl l.promises) ×
    Every (λ (tx : TxId). tx.client < most_clients) l.tx-iterator
