use Rattle.qc_mailbox.proofs.Bounds.{trays_show_controls}
use Rattle.qc_mailbox.proofs.laws.trays_show_controls.Goals as goal

pub returns : goal.returns
returns c = trays_show_controls
