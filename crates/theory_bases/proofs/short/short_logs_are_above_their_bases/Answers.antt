use Rattle.theory_bases.proofs.BaseLogs.{short_logs_are_above_their_bases}
use Rattle.theory_bases.proofs.short.short_logs_are_above_their_bases.Goals as goal

pub returns : goal.returns
returns r decl accepted acts run disciplined site short ok apart =
    short_logs_are_above_their_bases decl acts run accepted disciplined site short ok apart
