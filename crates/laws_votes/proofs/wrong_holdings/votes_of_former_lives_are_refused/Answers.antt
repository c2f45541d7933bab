use Rattle.laws_votes.proofs.WrongHoldings.{former, nameless, present}
use Rattle.laws_votes.proofs.wrong_holdings.votes_of_former_lives_are_refused.Goals as goal

pub returns-clause-former : goal.returns-clause-former
returns-clause-former c = former

pub returns-clause-present : goal.returns-clause-present
returns-clause-present c = present

pub returns-clause-none : goal.returns-clause-none
returns-clause-none c = nameless
