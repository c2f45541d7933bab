use Rattle.std.proofs.Common.{◌∙◌, sym}
use Rattle.qc_fabric.proofs.Gains.{saw}
use Rattle.qc_fabric.proofs.Rolled.{calls_on, rolled_unarmed}
use Rattle.qc_fabric.proofs.roll.Roll.call.Goals as goal

pub invariant_of-self : goal.invariant_of-self
invariant_of-self g c =
    calls_on c.self.invariant c.in-Some.right
    (sym c.take.ensures.value ∙ c.in-Some.is) _ _ _ _ c.look-right.ensures.met c.look-right.ensures.all

pub returns-clause-saw : goal.returns-clause-saw
returns-clause-saw g c =
    saw _ _ _ _ _ c.look-right.ensures.met c.look-right.ensures.all
    (rolled_unarmed c.self.invariant c.in-Some.right (sym c.take.ensures.value ∙ c.in-Some.is))
