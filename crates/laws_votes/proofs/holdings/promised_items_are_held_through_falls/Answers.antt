use Rattle.laws_votes.proofs.PromisedStill.{promised_items_are_held_through_falls}
use Rattle.laws_votes.proofs.holdings.promised_items_are_held_through_falls.Goals as goal

pub returns : goal.returns
returns g c decl script h open_inputs accepted sound run kept site p is free up still =
    promised_items_are_held_through_falls g.C.ConductWithFalls.fits decl script h open_inputs accepted sound run kept
    site is free up p still
