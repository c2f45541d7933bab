use Rattle.laws_reach.proofs.SightLaw.{records_follow_what_was_seen_through_falls}
use Rattle.laws_reach.proofs.sight.records_follow_what_was_seen_through_falls.Goals as goal

pub returns : goal.returns
returns g c decl script h open_inputs accepted sound run kept =
    records_follow_what_was_seen_through_falls g.C.ConductWithFalls.fits decl script h open_inputs accepted sound run
    kept
