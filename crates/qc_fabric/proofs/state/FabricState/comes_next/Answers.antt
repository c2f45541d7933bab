use Rattle.std.proofs.Common.{sym}
use Rattle.qc_mailbox.proofs.Picking.{some_picked}
use Rattle.qc_mailbox.specs.Vocabulary.{either}
use Rattle.qc_fabric.proofs.state.FabricState.comes_next.Goals as goal

pub returns-in-Some-next_actor-clause-named : goal.returns-in-Some-next_actor-clause-named
returns-in-Some-next_actor-clause-named g c =
    (some_picked g.N.RunName.declaration g.N.RunName.script
    (either c.args.self.now.open_inputs c.args.self.now.held) c.args.self.now.history c.in-Some-next_actor.actor
    (sym c.in-Some-next_actor.ensures)).0
