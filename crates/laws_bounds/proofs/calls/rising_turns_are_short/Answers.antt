use Rattle.laws_bounds.proofs.Rising.{risen_turn_short}
use Rattle.laws_bounds.proofs.calls.rising_turns_are_short.Goals as goal

pub returns-clause-short : goal.returns-clause-short
returns-clause-short c = risen_turn_short
