use Rattle.laws_votes.proofs.CountedOnce.{committed_operations_are_counted}
use Rattle.laws_votes.proofs.count_laws.committed_operations_are_counted.Goals as goal

pub returns : goal.returns
returns g c decl script h open_inputs accepted sound run kept =
    committed_operations_are_counted g.C.ConductWithFalls.fits decl script h open_inputs accepted sound run kept
