use Rattle.std.proofs.Common.{refl}
use Rattle.theory_bases.proofs.Disciplined.{two_moves_are_disciplined}
use Rattle.theory_bases.proofs.witnesses.two_moves_are_disciplined.Goals as goal

pub returns-clause-disciplined : goal.returns-clause-disciplined
returns-clause-disciplined r = two_moves_are_disciplined

pub returns-clause-epochs : goal.returns-clause-epochs
returns-clause-epochs r = refl

pub returns-clause-logs : goal.returns-clause-logs
returns-clause-logs r = refl
