use Rattle.laws_reach.proofs.Falling.{aborted, dropped, lost, other_stamp, post_ends, unsaid, untold}
use Rattle.laws_reach.proofs.wrong_told.wrong_ends_through_falls_are_refused.Goals as goal

pub returns-clause-aborted : goal.returns-clause-aborted
returns-clause-aborted g = aborted

pub returns-clause-dropped : goal.returns-clause-dropped
returns-clause-dropped g = dropped

pub returns-clause-lost : goal.returns-clause-lost
returns-clause-lost g = lost

pub returns-clause-other_stamp : goal.returns-clause-other_stamp
returns-clause-other_stamp g = other_stamp

pub returns-clause-untold : goal.returns-clause-untold
returns-clause-untold g = untold

pub returns-clause-unsaid : goal.returns-clause-unsaid
returns-clause-unsaid g = unsaid

pub returns-clause-post : goal.returns-clause-post
returns-clause-post g = post_ends
