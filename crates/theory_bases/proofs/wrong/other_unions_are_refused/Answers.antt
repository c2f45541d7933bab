use Rattle.theory_bases.proofs.Refused.{less, more}
use Rattle.theory_bases.proofs.wrong.other_unions_are_refused.Goals as goal

pub returns-clause-less : goal.returns-clause-less
returns-clause-less r u = less u

pub returns-clause-more : goal.returns-clause-more
returns-clause-more r u = more u
