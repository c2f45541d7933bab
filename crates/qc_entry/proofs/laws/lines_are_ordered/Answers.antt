use Rattle.qc_entry.proofs.Orders.{lines_are_ordered}
use Rattle.qc_entry.proofs.laws.lines_are_ordered.Goals as goal

pub returns : goal.returns
returns c = lines_are_ordered
