-- Transactions in their order, and promises in that of their transactions.
use Rattle.std.specs.Prelude.{List, [], fold}
use Rattle.std.specs.Ordering.{on}
use Rattle.std.specs.declared.cmp.Ordering.{Ordering}
use Rattle.qc_list.specs.Vocabulary.{inserted}
use Rattle.qc_stamp.specs.declared.stamp.TxId.{TxId}
use Rattle.qc_stamp.specs.Vocabulary.{tx_cmp}
use Rattle.qc_entry.specs.declared.record.Prepared.{Prepared}

abbrev pub in_order : List TxId → List TxId
in_order txs = fold (inserted tx_cmp) [] txs

abbrev pub promise_cmp : Prepared → Prepared → Ordering
promise_cmp = on (λ (p : Prepared). p.tx) tx_cmp
