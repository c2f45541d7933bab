use Rattle.qc_front.proofs.CommandsKeep.{commands_keep_hold}
use Rattle.qc_front.proofs.laws.commands_keep_hold.Goals as goal

pub returns : goal.returns
returns c = commands_keep_hold
