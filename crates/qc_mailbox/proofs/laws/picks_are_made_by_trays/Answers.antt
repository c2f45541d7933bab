use Rattle.qc_mailbox.proofs.Picking.{picks_are_made_by_trays}
use Rattle.qc_mailbox.proofs.laws.picks_are_made_by_trays.Goals as goal

pub returns : goal.returns
returns c = picks_are_made_by_trays
