use Rattle.std.proofs.lemmas.Result.{err_from_is_err_and}
use Rattle.toml.specs.View.{view}
use Rattle.qc_accept.specs.Vocabulary.{data_of, listed_in, store_in, with_item}
use Rattle.qc_accept.proofs.Reading.{item_seen, reads_on, reads_none}
use Rattle.qc_accept.proofs.epochs.read_listed.Goals as goal

pub returns-in_err-add_item : goal.returns-in_err-add_item
returns-in_err-add_item c =
    let told = err_from_is_err_and c.from_residual.result c.from_residual.ensures.1 in
    rw (told.1, told.2) (λ e. reads_none (with_item (store_in c.args.store.now) c.args.side)
    (listed_in c.loop-item.listed) (data_of c.args.items.now) c.loop-item.item-index (view c.item-item.result) _
    (item_seen view c.args.items.now c.loop-item.item-index c.item-item.result c.loop-item-test.true c.item-item.is)
    (c.in_err-add_item.ensures e) c.loop-item.invariant)

pub loop-item-preserved : goal.loop-item-preserved
loop-item-preserved c =
    reads_on (with_item (store_in c.args.store.now) c.args.side) (listed_in c.loop-item.listed) _
    (data_of c.args.items.now) c.loop-item.item-index (view c.item-item.result) _
    (item_seen view c.args.items.now c.loop-item.item-index c.item-item.result c.loop-item-test.true c.item-item.is)
    c.in_ok-add_item.ensures c.loop-item.invariant
