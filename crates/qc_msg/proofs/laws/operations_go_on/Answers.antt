use Rattle.qc_msg.proofs.Growth.{operations-grow, operations-more, standing-more}
use Rattle.qc_msg.proofs.laws.operations_go_on.Goals as goal

pub returns : goal.returns
returns c = record { operations = operations-more; standing = standing-more; grow = operations-grow }
