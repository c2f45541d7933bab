use Rattle.qc_record.proofs.InForm.{legal_records_are_in_form}
use Rattle.qc_record.proofs.laws.legal_records_are_in_form.Goals as goal

pub returns : goal.returns
returns c = legal_records_are_in_form
