use Rattle.qc_spent.proofs.FittingRecords.{fitting_records_are_kept}
use Rattle.qc_spent.proofs.laws.fitting_records_are_kept.Goals as goal

pub returns : goal.returns
returns c = fitting_records_are_kept
