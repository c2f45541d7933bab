use Rattle.qc_process.proofs.Ups.{writers_are_up}
use Rattle.qc_process.proofs.process.Process.take.Goals as goal

pub returns-clause-writes : goal.returns-clause-writes
returns-clause-writes g c = writers_are_up c.args.decl.now c.self.inside.actor _ c.args.given c.self.inside.store
    c.act.result c.self.invariant c.act.ensures.ok
