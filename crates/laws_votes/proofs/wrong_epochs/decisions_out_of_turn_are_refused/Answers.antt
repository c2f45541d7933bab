use Rattle.laws_votes.proofs.WrongEpochs.{not_skipped, not_twice, one_after_another}
use Rattle.laws_votes.proofs.wrong_epochs.decisions_out_of_turn_are_refused.Goals as goal

pub returns-clause-taken : goal.returns-clause-taken
returns-clause-taken c = one_after_another

pub returns-clause-skipped : goal.returns-clause-skipped
returns-clause-skipped c = not_skipped

pub returns-clause-twice : goal.returns-clause-twice
returns-clause-twice c = not_twice
