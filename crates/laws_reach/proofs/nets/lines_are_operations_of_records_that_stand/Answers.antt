use Rattle.laws_reach.proofs.RunLaws.{message_lines, site_lines}
use Rattle.laws_reach.proofs.nets.lines_are_operations_of_records_that_stand.Goals as goal

pub returns-clause-sites : goal.returns-clause-sites
returns-clause-sites g c decl script h open_inputs commits a s line accepted sound run kept standing site up closed is
    among = site_lines g.C.ConductWithFalls.fits decl script h open_inputs accepted sound run kept commits standing a s
    line site up closed is among

pub returns-clause-messages : goal.returns-clause-messages
returns-clause-messages g c decl script h open_inputs commits e line accepted sound run kept standing sent among =
    message_lines g.C.ConductWithFalls.fits decl script h open_inputs accepted sound run kept commits standing e line
    sent among
