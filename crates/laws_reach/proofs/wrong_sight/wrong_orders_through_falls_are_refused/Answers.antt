use Rattle.laws_reach.proofs.WrongSight.{below_line, below_pending, below_told, of_another}
use Rattle.laws_reach.proofs.wrong_sight.wrong_orders_through_falls_are_refused.Goals as goal

pub returns-clause-below_told : goal.returns-clause-below_told
returns-clause-below_told c = below_told

pub returns-clause-below_line : goal.returns-clause-below_line
returns-clause-below_line c = below_line

pub returns-clause-below_pending : goal.returns-clause-below_pending
returns-clause-below_pending c = below_pending

pub returns-clause-of_another : goal.returns-clause-of_another
returns-clause-of_another c = of_another
