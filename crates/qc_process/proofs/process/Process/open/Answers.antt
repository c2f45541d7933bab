use Rattle.qc_process.proofs.process.Process.open.Goals as goal

pub returns-in-Err-clause-err : goal.returns-in-Err-clause-err
returns-in-Err-clause-err g c = rw (← c.self.view_is) c.in-Err.ensures.err
