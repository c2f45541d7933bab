use Rattle.qc_mailbox.proofs.Apart.{one_controls, one_count, one_cuts}
use Rattle.qc_mailbox.proofs.laws.inboxes_agree.Goals as goal

pub returns : goal.returns
returns c = record { cuts = one_cuts; controls = one_controls; counts = one_count }
