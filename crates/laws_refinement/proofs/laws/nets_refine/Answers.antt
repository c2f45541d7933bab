use Rattle.laws_refinement.proofs.Refining.{nets_refine}
use Rattle.laws_refinement.proofs.laws.nets_refine.Goals as goal

pub returns : goal.returns
returns c decl net accepted reached = nets_refine decl accepted net reached
