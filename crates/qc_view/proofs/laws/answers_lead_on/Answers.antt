use Rattle.qc_view.proofs.Runs.{answers_lead_on}
use Rattle.qc_view.proofs.laws.answers_lead_on.Goals as goal

pub returns : goal.returns
returns c = answers_lead_on
