use Rattle.qc_msg.proofs.Growth.{operations_are_those_of_records}
use Rattle.qc_msg.proofs.laws.operations_are_those_of_records.Goals as goal

pub returns : goal.returns
returns c = operations_are_those_of_records
