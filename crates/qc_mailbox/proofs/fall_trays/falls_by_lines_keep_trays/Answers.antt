use Rattle.qc_mailbox.proofs.FallTrays.{falls_by_lines_keep_trays}
use Rattle.qc_mailbox.proofs.fall_trays.falls_by_lines_keep_trays.Goals as goal

pub returns : goal.returns
returns c = falls_by_lines_keep_trays
