use Rattle.std.proofs.Common.{◌≤◌, length, arith}
use Rattle.qc_script.specs.Vocabulary.{phase_of}
use Rattle.qc_fabric.proofs.Phased.{phase_few}
use Rattle.qc_fabric.proofs.state.FabricState.next_phase.Goals as goal

pub overflow_add-result : goal.overflow_add-result
overflow_add-result g c =
    let few : phase_of c.self.inside.log.history ≤ length c.self.inside.log.history =
    phase_few (g.C.Conduct.lawful g.N.RunName.declaration)
    (g.C.Conduct.fits g.N.RunName.declaration) g.N.RunName.declaration g.N.RunName.script c.self.invariant.down
    c.self.inside.log.history c.self.inside.inputs.items c.self.invariant.runs in
    omega (arith, few, c.self.invariant.phase_is, c.self.invariant.bound)
