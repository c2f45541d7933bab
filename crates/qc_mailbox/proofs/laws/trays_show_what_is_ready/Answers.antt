use Rattle.qc_mailbox.proofs.Seeing.{trays_show_what_is_ready}
use Rattle.qc_mailbox.proofs.laws.trays_show_what_is_ready.Goals as goal

pub returns : goal.returns
returns c = trays_show_what_is_ready
