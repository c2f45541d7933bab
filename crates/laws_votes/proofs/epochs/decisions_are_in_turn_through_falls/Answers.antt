use Rattle.laws_votes.proofs.EpochLaw.{decisions_are_in_turn_through_falls}
use Rattle.laws_votes.proofs.epochs.decisions_are_in_turn_through_falls.Goals as goal

pub returns : goal.returns
returns g c decl script h open_inputs accepted sound run kept =
    decisions_are_in_turn_through_falls g.C.ConductWithFalls.fits decl script h open_inputs accepted sound run kept
