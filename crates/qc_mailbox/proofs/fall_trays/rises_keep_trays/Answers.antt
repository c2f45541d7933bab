use Rattle.qc_mailbox.proofs.FallTrays.{rises_keep_trays}
use Rattle.qc_mailbox.proofs.fall_trays.rises_keep_trays.Goals as goal

pub returns : goal.returns
returns c = rises_keep_trays
