use Rattle.laws_refinement.proofs.NetLaws.{apart, nets_are_one_copy}
use Rattle.laws_refinement.proofs.laws.nets_are_one_copy.Goals as goal

pub returns-clause-one_copy : goal.returns-clause-one_copy
returns-clause-one_copy c decl net accepted reached = nets_are_one_copy decl accepted net reached

pub returns-clause-apart : goal.returns-clause-apart
returns-clause-apart c decl net accepted reached = apart decl accepted net reached
