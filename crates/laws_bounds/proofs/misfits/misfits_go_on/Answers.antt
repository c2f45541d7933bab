use Rattle.laws_bounds.proofs.MisfitSteps.{kept_are, no_misfits, others_on, own_on}
use Rattle.laws_bounds.proofs.misfits.misfits_go_on.Goals as goal

pub returns-clause-none : goal.returns-clause-none
returns-clause-none c = no_misfits

pub returns-clause-others : goal.returns-clause-others
returns-clause-others c = others_on

pub returns-clause-own : goal.returns-clause-own
returns-clause-own c = own_on

pub returns-clause-kept : goal.returns-clause-kept
returns-clause-kept c = kept_are
