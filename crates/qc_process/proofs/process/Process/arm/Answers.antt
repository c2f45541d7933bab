use Rattle.qc_process.proofs.process.Process.arm.Goals as goal

pub returns-clause-goes : goal.returns-clause-goes
returns-clause-goes g c = rw (← c.self.view_is) c.arm.ensures.goes
