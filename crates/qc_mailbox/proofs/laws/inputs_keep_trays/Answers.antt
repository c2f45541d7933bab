use Rattle.qc_mailbox.proofs.Acting.{inputs_keep_trays}
use Rattle.qc_mailbox.proofs.laws.inputs_keep_trays.Goals as goal

pub returns : goal.returns
returns c = inputs_keep_trays
