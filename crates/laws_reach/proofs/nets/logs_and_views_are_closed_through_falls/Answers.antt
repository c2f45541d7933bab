use Rattle.laws_reach.proofs.RunLaws.{site_closed, view_closed}
use Rattle.laws_reach.proofs.nets.logs_and_views_are_closed_through_falls.Goals as goal

pub returns-clause-sites : goal.returns-clause-sites
returns-clause-sites g c decl script h open_inputs commits a s accepted sound run kept standing site up closed is =
    site_closed g.C.ConductWithFalls.fits decl script h open_inputs accepted sound run kept commits standing a s site up
    closed is

pub returns-clause-views : goal.returns-clause-views
returns-clause-views g c decl script h open_inputs commits e tx epoch life object view own accepted sound run kept
    standing sent is = view_closed g.C.ConductWithFalls.fits decl script h open_inputs accepted sound run kept commits
    standing e tx epoch life object view own sent is
