use Rattle.std.proofs.Common.{◌∙◌, refl, true}
use Rattle.qc_fabric.proofs.KeptParts.{other_memory}
use Rattle.qc_fabric.proofs.state.FabricState.pick.Goals as goal
use Rattle.qc_list.proofs.Places.{length-slice_set}

pub invariant_of-self : goal.invariant_of-self
invariant_of-self g c = rw c.set.ensures
    (other_memory c.self.invariant c.self.inside.log c.self.inside.mailboxes _ refl refl c.self.invariant.log_room
    c.self.invariant.mail_room
    (length-slice_set c.self.inside.held.items c.in-Some-Actor.actor true ∙ c.self.invariant.helds))
