use Rattle.laws_votes.proofs.PromisedStill.{sites_clocks_pass_their_dones_through_falls}
use Rattle.laws_votes.proofs.clocks.sites_clocks_pass_their_dones_through_falls.Goals as goal

pub returns : goal.returns
returns g c decl script h open_inputs accepted sound run kept site tx clock is free up among =
    sites_clocks_pass_their_dones_through_falls g.C.ConductWithFalls.fits decl script h open_inputs accepted sound run
    kept site is free up tx clock among
