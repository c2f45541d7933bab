use Rattle.qc_mailbox.proofs.Controlling.{phases_keep_trays}
use Rattle.qc_mailbox.proofs.laws.phases_keep_trays.Goals as goal

pub returns : goal.returns
returns c = phases_keep_trays
