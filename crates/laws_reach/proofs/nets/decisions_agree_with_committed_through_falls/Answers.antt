use Rattle.laws_reach.proofs.RunLaws.{decisions_agree_with_committed_through_falls}
use Rattle.laws_reach.proofs.nets.decisions_agree_with_committed_through_falls.Goals as goal

pub returns : goal.returns
returns g c decl script h open_inputs e accepted sound run kept sent =
    decisions_agree_with_committed_through_falls g.C.ConductWithFalls.fits decl script h open_inputs accepted sound run
    kept e sent
