use Rattle.qc_process.proofs.GivenUp.{stored_past_input, stored_past_others}
use Rattle.qc_process.proofs.laws.stores_stay_over_looks_and_inputs.Goals as goal

pub returns-clause-looks : goal.returns-clause-looks
returns-clause-looks c = stored_past_others

pub returns-clause-inputs : goal.returns-clause-inputs
returns-clause-inputs c = stored_past_input
