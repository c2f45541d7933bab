use Rattle.std.proofs.Common.{◌≡◌, ◌++◌, List, ◌∙◌, ap}
use Rattle.std.specs.List.{filter_map}
use Rattle.qc_entry.specs.declared.record.Prepared.{Prepared}
use Rattle.qc_stamp.specs.declared.stamp.TxId.{TxId}
use Rattle.qc_site.specs.Vocabulary.{prepared_of}
use Rattle.qc_site.proofs.InOrder.{in_order_by_txs, keys_in_order}
use Rattle.qc_site.proofs.epochs.promises_in_order.Goals as goal

pub transactions-init : goal.transactions-init
transactions-init c =
    let promises : List Prepared = c.args.promises.now in
    let keys = c.transactions-tx-items.result in
    let told = c.transactions-tx-items.ensures in
    let gives : c.into_iter-tx-iterator.result ≡ keys = c.into_iter-tx-iterator.ensures.into_iter_gives in (
      tt,
      tt,
      ap (λ (list : List Prepared). list ++ filter_map (prepared_of promises) c.into_iter-tx-iterator.result)
          c.new-list.ensures
          ∙ ap (λ (txs : List TxId). filter_map (prepared_of promises) txs)
          (gives ∙ keys_in_order keys promises told.ascending told.just)
          ∙ in_order_by_txs promises told.single,
    )
