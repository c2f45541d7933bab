use Rattle.laws_refinement.proofs.LaterDecisions.{decisions_may_wait}
use Rattle.laws_refinement.proofs.falls.decisions_may_wait.Goals as goal

pub returns : goal.returns
returns c decl w v d snapshots verdicts m = decisions_may_wait decl w v d snapshots verdicts m
