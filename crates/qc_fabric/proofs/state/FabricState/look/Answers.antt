use Rattle.std.proofs.Common.{◌∙◌, [], sym, subst}
use Rattle.qc_pass.specs.Vocabulary.{Met}
use Rattle.qc_fabric.proofs.Gains.{saw}
use Rattle.qc_fabric.proofs.KeptParts.{looks_on, unarmed_of}
use Rattle.qc_fabric.proofs.state.FabricState.look.Goals as goal

pub invariant_of-self : goal.invariant_of-self
invariant_of-self g c =
    looks_on c.self.invariant c.in-Some.right
    (sym c.take.ensures.value ∙ c.in-Some.is) c.args.pass.now c.look-right.new.pass c.look-right.result
    (subst (λ n. Met c.args.pass.now c.in-Some.right c.look-right.new.pass c.look-right.result [] n) c.room-kept.ensures
    c.look-right.ensures.met) c.look-right.ensures.all

pub returns-clause-saw : goal.returns-clause-saw
returns-clause-saw g c = saw _ _ _ _ _ c.look-right.ensures.met c.look-right.ensures.all
    (unarmed_of c.self.invariant c.in-Some.right (sym c.take.ensures.value ∙ c.in-Some.is))
