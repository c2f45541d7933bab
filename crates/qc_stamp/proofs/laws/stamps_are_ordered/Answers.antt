use Rattle.qc_stamp.proofs.Orders.{stamps_are_ordered}
use Rattle.qc_stamp.proofs.laws.stamps_are_ordered.Goals as goal

pub returns : goal.returns
returns c = stamps_are_ordered
