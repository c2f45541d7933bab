use Rattle.laws_reach.proofs.RunLaws.{apart, listed, one_copy}
use Rattle.laws_reach.proofs.nets.records_that_stand_are_one_copy.Goals as goal

pub returns-clause-listed : goal.returns-clause-listed
returns-clause-listed g c decl script h open_inputs accepted sound run kept =
    listed g.C.ConductWithFalls.fits decl script h open_inputs accepted sound run kept

pub returns-clause-one_copy : goal.returns-clause-one_copy
returns-clause-one_copy g c decl script h open_inputs commits accepted sound run kept standing =
    one_copy g.C.ConductWithFalls.fits decl script h open_inputs accepted sound run kept commits standing

pub returns-clause-apart : goal.returns-clause-apart
returns-clause-apart g c decl script h open_inputs commits accepted sound run kept standing =
    apart g.C.ConductWithFalls.fits decl script h open_inputs accepted sound run kept commits standing
