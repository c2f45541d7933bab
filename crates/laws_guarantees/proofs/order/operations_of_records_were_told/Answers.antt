use Rattle.laws_guarantees.proofs.Law.{operations_of_records_were_told}
use Rattle.laws_guarantees.proofs.order.operations_of_records_were_told.Goals as goal

pub returns : goal.returns
returns f decl script h open_inputs c op accepted sound run among listed =
    operations_of_records_were_told decl script accepted sound h open_inputs run c op among listed
