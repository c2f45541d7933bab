use Rattle.laws_guarantees.proofs.SiteClocks.{dones_passed, lines_passed}
use Rattle.laws_guarantees.proofs.clocks.sites_clocks_pass_what_they_have.Goals as goal

pub returns-clause-lines : goal.returns-clause-lines
returns-clause-lines c decl script h open_inputs site line accepted sound run is free among =
    lines_passed decl script h open_inputs run site is free accepted sound line among

pub returns-clause-dones : goal.returns-clause-dones
returns-clause-dones c decl script h open_inputs site tx clock run is free among =
    dones_passed decl script h open_inputs run site is free tx clock among
