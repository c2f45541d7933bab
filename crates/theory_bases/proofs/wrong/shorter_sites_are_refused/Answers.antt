use Rattle.std.proofs.Common.{refl}
use Rattle.theory_bases.proofs.Refused.{lacks_a_line, short_enough, too_short}
use Rattle.theory_bases.proofs.wrong.shorter_sites_are_refused.Goals as goal

pub returns-clause-short : goal.returns-clause-short
returns-clause-short r = short_enough

pub returns-clause-log : goal.returns-clause-log
returns-clause-log r = refl

pub returns-clause-refused : goal.returns-clause-refused
returns-clause-refused r h = too_short h

pub returns-clause-lost : goal.returns-clause-lost
returns-clause-lost r h = lacks_a_line h
