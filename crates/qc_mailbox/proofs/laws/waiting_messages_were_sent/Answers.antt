use Rattle.qc_mailbox.proofs.Among.{waiting_messages_were_sent}
use Rattle.qc_mailbox.proofs.laws.waiting_messages_were_sent.Goals as goal

pub returns : goal.returns
returns c = waiting_messages_were_sent
