use Rattle.laws_votes.proofs.SiteClocks.{sites_clocks_pass_their_lines_through_falls}
use Rattle.laws_votes.proofs.clocks.sites_clocks_pass_their_lines_through_falls.Goals as goal

pub returns : goal.returns
returns g c decl script h open_inputs accepted sound run kept site line is free up among =
    sites_clocks_pass_their_lines_through_falls g.C.ConductWithFalls.fits decl script h open_inputs accepted sound run
    kept site is free up line among
