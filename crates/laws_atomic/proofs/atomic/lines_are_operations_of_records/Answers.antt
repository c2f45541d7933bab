use Rattle.laws_atomic.proofs.Runs.{message_lines, site_lines}
use Rattle.laws_atomic.proofs.atomic.lines_are_operations_of_records.Goals as goal

pub returns-clause-sites : goal.returns-clause-sites
returns-clause-sites c decl script h open_inputs a line accepted sound run site closed among =
    site_lines decl script h open_inputs accepted sound run a line site closed among

pub returns-clause-messages : goal.returns-clause-messages
returns-clause-messages c decl script h open_inputs e line accepted sound run sent among =
    message_lines decl script h open_inputs accepted sound run e line sent among
