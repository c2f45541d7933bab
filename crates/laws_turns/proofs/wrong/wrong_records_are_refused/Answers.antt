use Rattle.laws_turns.proofs.WrongOnes.{later, less, more, no_end, other}
use Rattle.laws_turns.proofs.wrong.wrong_records_are_refused.Goals as goal

pub returns-clause-other : goal.returns-clause-other
returns-clause-other c = other

pub returns-clause-more : goal.returns-clause-more
returns-clause-more c = more

pub returns-clause-less : goal.returns-clause-less
returns-clause-less c = less

pub returns-clause-later : goal.returns-clause-later
returns-clause-later c = later

pub returns-clause-no_end : goal.returns-clause-no_end
returns-clause-no_end c = no_end
