use Rattle.laws_reach.proofs.RunLaws.{votes_of_runs_stand_on_records}
use Rattle.laws_reach.proofs.nets.votes_of_runs_stand_on_records.Goals as goal

pub returns : goal.returns
returns g c decl script h open_inputs e to clock accepted sound run kept sent site is =
    votes_of_runs_stand_on_records g.C.ConductWithFalls.fits decl script h open_inputs accepted sound run kept e to
    clock sent site is
