use Rattle.std.proofs.Common.{arith}
use Rattle.qc_gen.proofs.Loads.{loads_read}
use Rattle.qc_gen.proofs.Phases.{phase_at, phases_counted}
use Rattle.qc_gen.proofs.laws.loads_are_read.Goals as goal

pub returns-clause-read : goal.returns-clause-read
returns-clause-read c = loads_read

pub returns-clause-phases : goal.returns-clause-phases
returns-clause-phases c count seed = phases_counted count 0 seed

pub returns-clause-each : goal.returns-clause-each
returns-clause-each c count seed k below = phase_at count 0 seed k k below (omega arith)
