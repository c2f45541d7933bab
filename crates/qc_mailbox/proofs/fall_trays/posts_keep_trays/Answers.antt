use Rattle.qc_mailbox.proofs.FallTrays.{posts_keep_trays}
use Rattle.qc_mailbox.proofs.fall_trays.posts_keep_trays.Goals as goal

pub returns : goal.returns
returns c = posts_keep_trays
