use Rattle.qc_spent.proofs.Stores.{others_on, steps_on, arm_on}
use Rattle.qc_spent.proofs.laws.stores_go_on.Goals as goal

pub returns-clause-others : goal.returns-clause-others
returns-clause-others c = others_on

pub returns-clause-own : goal.returns-clause-own
returns-clause-own c = steps_on

pub returns-clause-arms : goal.returns-clause-arms
returns-clause-arms c = arm_on
