use Rattle.qc_front.proofs.AtOnce.{answers_ask_at_once}
use Rattle.qc_front.proofs.laws.answers_ask_at_once.Goals as goal

pub returns : goal.returns
returns c = answers_ask_at_once
