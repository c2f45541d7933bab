use Rattle.qc_mailbox.proofs.Controlling.{controls_keep_trays}
use Rattle.qc_mailbox.proofs.laws.controls_keep_trays.Goals as goal

pub returns : goal.returns
returns c = controls_keep_trays
