use Rattle.qc_table.proofs.Numbered.{first_is_an_event}
use Rattle.qc_table.proofs.laws.first_is_an_event.Goals as goal

pub returns : goal.returns
returns c = first_is_an_event
