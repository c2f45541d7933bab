use Rattle.qc_process.proofs.process.Process.crash.Goals as goal

pub returns-clause-goes : goal.returns-clause-goes
returns-clause-goes g c = rw (← c.self.view_is) c.crash.ensures.goes

pub returns-clause-given_up : goal.returns-clause-given_up
returns-clause-given_up g c = rw (← c.self.view_is) c.crash.ensures.given_up
