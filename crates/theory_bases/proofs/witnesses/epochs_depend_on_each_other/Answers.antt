use Rattle.theory_bases.proofs.Dependences.{both_ways, on_earlier, on_later}
use Rattle.theory_bases.proofs.witnesses.epochs_depend_on_each_other.Goals as goal

pub returns-clause-disciplined : goal.returns-clause-disciplined
returns-clause-disciplined r = both_ways

pub returns-clause-earlier : goal.returns-clause-earlier
returns-clause-earlier r = on_earlier

pub returns-clause-later : goal.returns-clause-later
returns-clause-later r = on_later
