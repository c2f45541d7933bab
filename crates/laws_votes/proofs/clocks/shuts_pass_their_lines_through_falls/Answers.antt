use Rattle.laws_votes.proofs.ShutLines.{shuts_pass_their_lines_through_falls}
use Rattle.laws_votes.proofs.clocks.shuts_pass_their_lines_through_falls.Goals as goal

pub returns : goal.returns
returns g c decl script h open_inputs accepted sound run kept e to snapshot sent is line among =
    shuts_pass_their_lines_through_falls g.C.ConductWithFalls.fits decl script h open_inputs accepted sound run kept
    e to snapshot sent is line among
