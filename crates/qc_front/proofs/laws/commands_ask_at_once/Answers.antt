use Rattle.qc_front.proofs.AtOnce.{commands_ask_at_once}
use Rattle.qc_front.proofs.laws.commands_ask_at_once.Goals as goal

pub returns : goal.returns
returns c = commands_ask_at_once
