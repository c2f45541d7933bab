use Rattle.qc_mailbox.proofs.Controlling.{damaged_journals_keep_trays}
use Rattle.qc_mailbox.proofs.fall_trays.damaged_journals_keep_trays.Goals as goal

pub returns : goal.returns
returns c = damaged_journals_keep_trays
