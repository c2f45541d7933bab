use Rattle.qc_mailbox.proofs.Keeping.{new_trays_are_kept}
use Rattle.qc_mailbox.proofs.laws.new_trays_are_kept.Goals as goal

pub returns : goal.returns
returns c = new_trays_are_kept
