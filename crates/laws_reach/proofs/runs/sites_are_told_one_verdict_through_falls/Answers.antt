use Rattle.laws_reach.proofs.Agreeing.{sites_are_told_one_verdict_through_falls}
use Rattle.laws_reach.proofs.runs.sites_are_told_one_verdict_through_falls.Goals as goal

pub returns : goal.returns
returns g c decl script h open_inputs accepted sound run kept =
    sites_are_told_one_verdict_through_falls g.C.ConductWithFalls.fits decl script h open_inputs accepted sound run kept
