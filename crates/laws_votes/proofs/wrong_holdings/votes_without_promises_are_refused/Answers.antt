use Rattle.laws_votes.proofs.WrongHoldings.{promise_kept}
use Rattle.laws_votes.proofs.wrong_holdings.votes_without_promises_are_refused.Goals as goal

pub returns-clause-kept : goal.returns-clause-kept
returns-clause-kept c = promise_kept
