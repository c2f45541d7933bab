use Rattle.std.proofs.Common.{◌≡◌, None, sym, slice_get}
use Rattle.qc_script.specs.Vocabulary.{controls_left}
use Rattle.qc_fabric.proofs.Advancing.{nothing_comes}
use Rattle.qc_fabric.proofs.state.FabricState.next_order.Goals as goal

pub returns-in-None-clause-none : goal.returns-in-None-clause-none
returns-in-None-clause-none g c = λ none.
    (let first : slice_get (controls_left g.N.RunName.script c.args.self.now.history) 0 ≡ None =
    sym c.in-None.ensures in
    nothing_comes g.N.RunName.declaration g.N.RunName.script c.args.self.now.history c.args.self.now.open_inputs
    c.args.last first (c.next_phase.ensures.none none))
