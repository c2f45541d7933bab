use Rattle.std.proofs.Common.{◌∙◌, arith, sym}
use Rattle.qc_fabric.proofs.Gains.{saw}
use Rattle.qc_fabric.proofs.KeptParts.{unarmed_of}
use Rattle.qc_fabric.proofs.Kept.{leaves_on, room_kept}
use Rattle.qc_fabric.proofs.state.FabricState.leave.Goals as goal

pub overflow_sub-self : goal.overflow_sub-self
overflow_sub-self g c =
    let kept = room_kept c.self.invariant c.in-Some.right
    (sym c.take.ensures.value ∙ c.in-Some.is) c.args.pass.now c.look-right.ensures.met.had_room in
    omega (arith, kept, c.room-kept.ensures)

pub invariant_of-self : goal.invariant_of-self
invariant_of-self g c = rw (c.room-kept.ensures, c.set.ensures)
    (leaves_on c.self.invariant c.in-Some.right
    (sym c.take.ensures.value ∙ c.in-Some.is) c.args.pass.now c.look-right.new.pass c.look-right.result _
    c.look-right.ensures.met c.look-right.ensures.all)

pub returns-clause-saw : goal.returns-clause-saw
returns-clause-saw g c = saw _ _ _ _ _ c.look-right.ensures.met c.look-right.ensures.all
    (unarmed_of c.self.invariant c.in-Some.right (sym c.take.ensures.value ∙ c.in-Some.is))
