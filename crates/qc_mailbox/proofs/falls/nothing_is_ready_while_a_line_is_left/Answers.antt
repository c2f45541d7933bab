use Rattle.qc_mailbox.proofs.FallLaws.{nothing_is_ready_while_a_line_is_left}
use Rattle.qc_mailbox.proofs.falls.nothing_is_ready_while_a_line_is_left.Goals as goal

pub returns : goal.returns
returns c = nothing_is_ready_while_a_line_is_left
