use Rattle.qc_site.proofs.InOrder.{In_order_is, order_ascends}
use Rattle.qc_recover.proofs.laws.promises_are_asked_about_in_order.Goals as goal

pub returns-clause-order : goal.returns-clause-order
returns-clause-order c = order_ascends

pub returns-clause-just : goal.returns-clause-just
returns-clause-just c = In_order_is
