use Rattle.laws_votes.proofs.Stamps.{stamps_pass_what_was_counted_in_their_lives}
use Rattle.laws_votes.proofs.clocks.stamps_pass_what_was_counted_in_their_lives.Goals as goal

pub returns : goal.returns
returns g c decl script h open_inputs accepted sound run kept commit r clock k =
    stamps_pass_what_was_counted_in_their_lives g.C.ConductWithFalls.fits decl script h open_inputs accepted sound run
    kept commit r clock k
