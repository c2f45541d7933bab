use Rattle.theory_bases.proofs.Above.{later_lines_are_above}
use Rattle.theory_bases.proofs.epochs.later_lines_are_above.Goals as goal

pub returns : goal.returns
returns c decl accepted acts run disciplined site l m d =
    later_lines_are_above decl accepted acts run disciplined site l m d
