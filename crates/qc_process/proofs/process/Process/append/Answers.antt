use Rattle.qc_process.proofs.process.Process.append.Goals as goal

pub returns-in-Done-clause-goes : goal.returns-in-Done-clause-goes
returns-in-Done-clause-goes g c = rw (← c.self.view_is) c.in-Done.ensures.goes

pub returns-in-Failed-clause-goes : goal.returns-in-Failed-clause-goes
returns-in-Failed-clause-goes g c = rw (← c.self.view_is) c.in-Failed.ensures.goes

pub returns-in-Stopped-clause-goes : goal.returns-in-Stopped-clause-goes
returns-in-Stopped-clause-goes g c = rw (← c.self.view_is) c.in-Stopped.ensures.goes
