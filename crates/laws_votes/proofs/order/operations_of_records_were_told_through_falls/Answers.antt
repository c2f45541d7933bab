use Rattle.laws_votes.proofs.Law.{operations_of_records_were_told_through_falls}
use Rattle.laws_votes.proofs.order.operations_of_records_were_told_through_falls.Goals as goal

pub returns : goal.returns
returns g c decl script h open_inputs accepted sound run kept commit op among listed =
    operations_of_records_were_told_through_falls g.C.ConductWithFalls.fits decl script h open_inputs accepted sound run
    kept commit op among listed
