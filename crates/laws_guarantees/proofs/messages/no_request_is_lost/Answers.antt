use Rattle.laws_guarantees.proofs.Passing.{no_request_is_lost}
use Rattle.laws_guarantees.proofs.messages.no_request_is_lost.Goals as goal

pub returns : goal.returns
returns c = no_request_is_lost
