use Rattle.laws_votes.proofs.WrongEpochs.{asks, not_asking, not_earlier}
use Rattle.laws_votes.proofs.wrong_epochs.other_epochs_are_refused.Goals as goal

pub returns-clause-named : goal.returns-clause-named
returns-clause-named c = asks

pub returns-clause-earlier : goal.returns-clause-earlier
returns-clause-earlier c = not_earlier

pub returns-clause-none : goal.returns-clause-none
returns-clause-none c = not_asking
