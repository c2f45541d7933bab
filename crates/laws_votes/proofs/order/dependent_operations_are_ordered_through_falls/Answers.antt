use Rattle.laws_votes.proofs.Law.{dependent_operations_are_ordered_through_falls}
use Rattle.laws_votes.proofs.order.dependent_operations_are_ordered_through_falls.Goals as goal

pub returns : goal.returns
returns g c decl script h open_inputs accepted sound run kept commit op t k line d =
    dependent_operations_are_ordered_through_falls g.C.ConductWithFalls.fits decl script h open_inputs accepted sound
    run kept commit op t k line d
