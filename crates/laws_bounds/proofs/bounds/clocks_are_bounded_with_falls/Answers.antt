use Rattle.laws_bounds.proofs.Needs.{run_bounded}
use Rattle.laws_bounds.proofs.bounds.clocks_are_bounded_with_falls.Goals as goal

pub returns-clause-risen : goal.returns-clause-risen
returns-clause-risen g c =
    λ decl script h open_inputs run bound all.
    run_bounded decl script g.C.ConductWithFalls.fits h open_inputs run bound all
