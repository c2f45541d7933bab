use Rattle.laws_votes.proofs.HeldLaw.{granted_items_are_held_in_their_lives}
use Rattle.laws_votes.proofs.holdings.granted_items_are_held_in_their_lives.Goals as goal

pub returns : goal.returns
returns g c decl script h open_inputs accepted sound run kept commit listed site want since =
    granted_items_are_held_in_their_lives g.C.ConductWithFalls.fits decl script h open_inputs accepted sound run kept
    commit listed site want since
