use Rattle.std.proofs.lemmas.Result.{err_from_is_err_and}
use Rattle.toml.specs.View.{view}
use Rattle.qc_accept.specs.Vocabulary.{data_of, store_in, with_plan}
use Rattle.qc_accept.proofs.Reading.{item_seen, stops}
use Rattle.qc_accept.proofs.Told.{then_ok}
use Rattle.qc_accept.proofs.epochs.read_plans.Goals as goal

pub returns-in_err-add_plan : goal.returns-in_err-add_plan
returns-in_err-add_plan c =
    let out = err_from_is_err_and c.from_residual-in_err-add_plan.result c.from_residual-in_err-add_plan.ensures.1 in
    rw (out.1, out.2) (λ apart. then_ok _ _ _ _ c.in_ok-items.ensures
    (stops (with_plan (store_in c.args.store.now)) c.loop-item.plans
    (data_of c.in_ok-items.items.now) c.loop-item.item-index (view c.item-item.result) _ _
    (item_seen view c.in_ok-items.items.now c.loop-item.item-index c.item-item.result c.loop-item-test.true
    c.item-item.is)
    (c.in_err-add_plan.ensures.plans apart) c.loop-item.invariant.reads))
