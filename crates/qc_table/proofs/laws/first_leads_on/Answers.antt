use Rattle.qc_table.proofs.Numbered.{first_leads_on}
use Rattle.qc_table.proofs.laws.first_leads_on.Goals as goal

pub returns : goal.returns
returns c = first_leads_on
