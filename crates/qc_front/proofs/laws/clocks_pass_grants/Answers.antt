use Rattle.qc_front.proofs.ClockMoves.{called_clock, called_epoch}
use Rattle.qc_front.proofs.Clocks.{ended_clock, takes_learns}
use Rattle.qc_front.proofs.laws.clocks_pass_grants.Goals as goal

pub returns-clause-answers : goal.returns-clause-answers
returns-clause-answers c = takes_learns

pub returns-clause-clock : goal.returns-clause-clock
returns-clause-clock c = called_clock

pub returns-clause-epoch : goal.returns-clause-epoch
returns-clause-epoch c = called_epoch

pub returns-clause-ended : goal.returns-clause-ended
returns-clause-ended c = ended_clock
