use Rattle.std.proofs.Common.{◌+◌, ◌<◌, arith}
use Rattle.qc_plan.specs.Vocabulary.{need_of, total}
use Rattle.qc_plan.proofs.Meet.{meet}
use Rattle.qc_plan.proofs.laws.closing_sites_meet_every_quorum.Goals as goal

pub returns-clause-initial : goal.returns-clause-initial
returns-clause-initial c plan closing a b object inv closes enough above reached =
    let heavy : total plan.weights < closing + need_of plan.initial object inv = closes.initial object inv above in
    meet plan.weights a b (omega arith)

pub returns-clause-last : goal.returns-clause-last
returns-clause-last c plan closing a b object event closes enough above reached =
    let heavy : total plan.weights < closing + need_of plan.last object event = closes.last object event above in
    meet plan.weights a b (omega arith)
