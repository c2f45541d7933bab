use Rattle.laws_reach.proofs.RunLaws.{refined}
use Rattle.laws_reach.proofs.nets.runs_with_falls_reach_nets.Goals as goal

pub returns-clause-refines : goal.returns-clause-refines
returns-clause-refines g c decl script h open_inputs accepted sound run kept =
    refined g.C.ConductWithFalls.fits decl script h open_inputs accepted sound run kept
