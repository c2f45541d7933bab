use Rattle.theory_bases.proofs.Above.{next_logs_stand_behind}
use Rattle.theory_bases.proofs.epochs.next_logs_stand_behind.Goals as goal

pub returns : goal.returns
returns c decl accepted acts run disciplined d e l m = next_logs_stand_behind decl accepted acts run disciplined d e l m
