use Rattle.qc_site.proofs.Refusals.{refusals_change_nothing}
use Rattle.qc_site.proofs.laws.refusals_change_nothing.Goals as goal

pub returns : goal.returns
returns c = refusals_change_nothing
