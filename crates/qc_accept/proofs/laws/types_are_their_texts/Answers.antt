use Rattle.qc_accept.proofs.Spelling.{types_are_their_texts}
use Rattle.qc_accept.proofs.laws.types_are_their_texts.Goals as goal

pub returns : goal.returns
returns c = types_are_their_texts
