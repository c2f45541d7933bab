use Rattle.laws_refinement.proofs.NetLaws.{closed_sites_pass_their_lines}
use Rattle.laws_refinement.proofs.laws.closed_sites_pass_their_lines.Goals as goal

pub returns : goal.returns
returns c decl net accepted reached e to snapshot sent is line among =
    closed_sites_pass_their_lines decl accepted net reached e to snapshot sent is line among
