use Rattle.laws_bounds.proofs.Calling.{turn_failed, turn_short}
use Rattle.laws_bounds.proofs.calls.turns_are_short_with_falls.Goals as goal

pub returns-clause-written : goal.returns-clause-written
returns-clause-written g c =
    λ decl script h open_inputs run accepted fit a turn taken law.
    turn_short decl script g.C.ConductWithFalls.fits h open_inputs run accepted fit a turn taken law

pub returns-clause-unwritten : goal.returns-clause-unwritten
returns-clause-unwritten g c =
    λ decl script h open_inputs run accepted fit a turn taken law.
    turn_failed decl script g.C.ConductWithFalls.fits h open_inputs run accepted fit a turn taken law
