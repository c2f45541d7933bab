use Rattle.laws_atomic.proofs.Runs.{site_closed, view_closed}
use Rattle.laws_atomic.proofs.atomic.logs_and_views_are_closed.Goals as goal

pub returns-clause-sites : goal.returns-clause-sites
returns-clause-sites c decl script h open_inputs a accepted sound run site closed =
    site_closed decl script h open_inputs accepted sound run a site closed

pub returns-clause-views : goal.returns-clause-views
returns-clause-views c decl script h open_inputs e tx epoch life object view own accepted sound run sent is =
    view_closed decl script h open_inputs accepted sound run e tx epoch life object view own sent is
