use Rattle.qc_commit.proofs.Numbering.{each-sent, sent-in_course}
use Rattle.qc_commit.proofs.laws.prepares_are_numbered.Goals as goal

pub returns : goal.returns
returns c = record { each = each-sent; later = sent-in_course }
