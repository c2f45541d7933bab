use Rattle.qc_process.proofs.process.Process.into_disk.Goals as goal

pub returns-clause-stored : goal.returns-clause-stored
returns-clause-stored g c = rw (← c.self.view_is) c.into_disk.ensures.stored

pub returns-clause-begun : goal.returns-clause-begun
returns-clause-begun g c = rw (← c.self.view_is) c.into_disk.ensures.begun
