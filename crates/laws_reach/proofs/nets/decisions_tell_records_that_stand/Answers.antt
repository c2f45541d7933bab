use Rattle.laws_reach.proofs.RunLaws.{decisions_tell_records_that_stand}
use Rattle.laws_reach.proofs.nets.decisions_tell_records_that_stand.Goals as goal

pub returns : goal.returns
returns g c decl script h open_inputs commits e tx verdict accepted sound run kept standing sent is =
    decisions_tell_records_that_stand g.C.ConductWithFalls.fits decl script h open_inputs accepted sound run kept
    commits standing e tx verdict sent is
