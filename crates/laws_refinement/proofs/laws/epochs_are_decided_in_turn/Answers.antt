use Rattle.laws_refinement.proofs.RulesInTurn.{epochs_are_decided_in_turn}
use Rattle.laws_refinement.proofs.laws.epochs_are_decided_in_turn.Goals as goal

pub returns : goal.returns
returns c decl net accepted reached = epochs_are_decided_in_turn decl accepted net reached
