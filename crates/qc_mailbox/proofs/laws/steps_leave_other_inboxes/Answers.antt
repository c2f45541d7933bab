use Rattle.qc_mailbox.proofs.Apart.{other_input, other_reply, other_send}
use Rattle.qc_mailbox.proofs.laws.steps_leave_other_inboxes.Goals as goal

pub returns : goal.returns
returns c = record { sends = other_send; inputs = other_input; replies = other_reply }
