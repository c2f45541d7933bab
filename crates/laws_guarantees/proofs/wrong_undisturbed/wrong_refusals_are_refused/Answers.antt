use Rattle.laws_guarantees.proofs.WrongOnes.{refuses_ended, refuses_new, refuses_own, refuses_short, takes_refused}
use Rattle.laws_guarantees.proofs.wrong_undisturbed.wrong_refusals_are_refused.Goals as goal

pub returns-clause-ended : goal.returns-clause-ended
returns-clause-ended c = refuses_ended

pub returns-clause-new : goal.returns-clause-new
returns-clause-new c = refuses_new

pub returns-clause-own : goal.returns-clause-own
returns-clause-own c = refuses_own

pub returns-clause-short : goal.returns-clause-short
returns-clause-short c = refuses_short

pub returns-clause-taken : goal.returns-clause-taken
returns-clause-taken c = takes_refused
