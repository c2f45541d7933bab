use Rattle.qc_front.proofs.ClockMoves.{called_count}
use Rattle.qc_front.proofs.Clocks.{takes_count}
use Rattle.qc_front.proofs.laws.counts_rise_by_one.Goals as goal

pub returns-clause-commands : goal.returns-clause-commands
returns-clause-commands c = called_count

pub returns-clause-answers : goal.returns-clause-answers
returns-clause-answers c = takes_count
