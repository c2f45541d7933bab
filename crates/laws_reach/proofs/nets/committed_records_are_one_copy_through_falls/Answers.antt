use Rattle.laws_reach.proofs.RunLaws.{committed_apart, committed_records_are_one_copy_through_falls}
use Rattle.laws_reach.proofs.nets.committed_records_are_one_copy_through_falls.Goals as goal

pub returns-clause-apart : goal.returns-clause-apart
returns-clause-apart g c decl script h open_inputs accepted sound run kept =
    committed_apart g.C.ConductWithFalls.fits decl script h open_inputs accepted sound run kept

pub returns-clause-one_copy : goal.returns-clause-one_copy
returns-clause-one_copy g c decl script h open_inputs accepted sound run kept =
    committed_records_are_one_copy_through_falls g.C.ConductWithFalls.fits decl script h open_inputs accepted sound run
    kept
