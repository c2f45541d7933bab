use Rattle.qc_mailbox.proofs.Acting.{turns_keep_trays}
use Rattle.qc_mailbox.proofs.laws.turns_keep_trays.Goals as goal

pub returns : goal.returns
returns c = turns_keep_trays
