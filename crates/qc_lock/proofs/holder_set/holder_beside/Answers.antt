use Rattle.std.proofs.Common.{◌≡◌, Some, true, sym, subst}
use Rattle.qc_stamp.specs.declared.stamp.TxId.{TxId}
use Rattle.qc_lock.specs.Vocabulary.{IsFirst}
use Rattle.qc_lock.proofs.Holding.{beside_next}
use Rattle.qc_lock.proofs.holder_set.holder_beside.Goals as goal
use Rattle.qc_stamp.proofs.Orders.{same_tx_is}

pub returns-in-Some : goal.returns-in-Some
returns-in-Some c =
    let same : c.in-Some.holder ≡ c.args.tx = same_tx_is c.in-Some.holder c.args.tx (sym c.if-eq.ensures) in
    beside_next c.args.places.now c.args.object c.args.number c.args.tx c.next_holder.result
    (subst (λ (t : TxId). IsFirst c.args.places.now c.args.object c.args.number (λ other. true) (Some t)) same
    c.in-Some.ensures) c.next_holder.ensures
