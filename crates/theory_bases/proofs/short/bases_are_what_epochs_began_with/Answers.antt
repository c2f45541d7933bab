use Rattle.theory_bases.proofs.BaseLogs.{decided_base, first_base}
use Rattle.theory_bases.proofs.short.bases_are_what_epochs_began_with.Goals as goal

pub returns-clause-decided : goal.returns-clause-decided
returns-clause-decided r decl accepted acts run disciplined site d =
    decided_base decl acts run accepted disciplined site d

pub returns-clause-first : goal.returns-clause-first
returns-clause-first r decl acts run site = first_base decl acts run site
