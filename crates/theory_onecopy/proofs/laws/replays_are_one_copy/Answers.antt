use Rattle.theory_onecopy.proofs.Copies.{replays_are_one_copy}
use Rattle.theory_onecopy.proofs.laws.replays_are_one_copy.Goals as goal

pub returns : goal.returns
returns c = replays_are_one_copy
