use Rattle.laws_votes.proofs.WrongHoldings.{granted_before, granted_now}
use Rattle.laws_votes.proofs.wrong_holdings.locks_of_former_lives_are_refused.Goals as goal

pub returns-clause-present : goal.returns-clause-present
returns-clause-present c = granted_now

pub returns-clause-former : goal.returns-clause-former
returns-clause-former c = granted_before
