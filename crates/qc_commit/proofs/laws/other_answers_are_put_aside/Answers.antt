use Rattle.qc_commit.proofs.Aside.{second-aside, unasked, unvoted}
use Rattle.qc_commit.proofs.laws.other_answers_are_put_aside.Goals as goal

pub returns : goal.returns
returns c = record { second = second-aside; unasked = unasked; unvoted = unvoted }
