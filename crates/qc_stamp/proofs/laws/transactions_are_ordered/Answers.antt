use Rattle.qc_stamp.proofs.Orders.{transactions_are_ordered}
use Rattle.qc_stamp.proofs.laws.transactions_are_ordered.Goals as goal

pub returns : goal.returns
returns c = transactions_are_ordered
