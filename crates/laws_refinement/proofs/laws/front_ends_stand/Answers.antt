use Rattle.laws_refinement.proofs.Standing.{front_ends_stand}
use Rattle.laws_refinement.proofs.laws.front_ends_stand.Goals as goal

pub returns : goal.returns
returns c decl net a reached = front_ends_stand decl net reached a
