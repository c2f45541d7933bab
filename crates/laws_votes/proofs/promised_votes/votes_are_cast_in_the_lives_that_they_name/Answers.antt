use Rattle.laws_votes.proofs.Cast.{votes_are_cast_in_the_lives_that_they_name}
use Rattle.laws_votes.proofs.promised_votes.votes_are_cast_in_the_lives_that_they_name.Goals as goal

pub returns : goal.returns
returns g c decl script h open_inputs accepted sound run kept early later e to clock is among site is_yes =
    votes_are_cast_in_the_lives_that_they_name decl script g.C.ConductWithFalls.fits accepted sound h open_inputs run
    kept early later is e to among (site, (clock, is_yes))
