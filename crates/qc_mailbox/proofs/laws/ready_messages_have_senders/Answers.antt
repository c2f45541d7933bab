use Rattle.qc_mailbox.proofs.Among.{ready_messages_have_senders}
use Rattle.qc_mailbox.proofs.laws.ready_messages_have_senders.Goals as goal

pub returns : goal.returns
returns c = ready_messages_have_senders
