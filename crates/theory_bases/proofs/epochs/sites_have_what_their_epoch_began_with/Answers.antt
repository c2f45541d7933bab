use Rattle.theory_bases.proofs.Above.{sites_have_what_their_epoch_began_with}
use Rattle.theory_bases.proofs.epochs.sites_have_what_their_epoch_began_with.Goals as goal

pub returns : goal.returns
returns c decl accepted acts run disciplined site d m =
    sites_have_what_their_epoch_began_with decl accepted acts run disciplined site d m
