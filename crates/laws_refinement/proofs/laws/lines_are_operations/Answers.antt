use Rattle.laws_refinement.proofs.NetLaws.{message_lines, site_lines}
use Rattle.laws_refinement.proofs.laws.lines_are_operations.Goals as goal

pub returns-clause-sites : goal.returns-clause-sites
returns-clause-sites c decl net a line accepted reached site up among =
    site_lines decl accepted net reached a line site up among

pub returns-clause-messages : goal.returns-clause-messages
returns-clause-messages c decl net e line accepted reached sent among =
    message_lines decl accepted net reached e line sent among
