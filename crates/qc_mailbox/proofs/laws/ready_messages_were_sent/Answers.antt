use Rattle.qc_mailbox.proofs.Among.{ready_messages_were_sent}
use Rattle.qc_mailbox.proofs.laws.ready_messages_were_sent.Goals as goal

pub returns : goal.returns
returns c = ready_messages_were_sent
