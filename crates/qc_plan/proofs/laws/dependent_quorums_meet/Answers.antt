use Rattle.std.proofs.Common.{◌+◌, ◌<◌, arith}
use Rattle.qc_plan.specs.Vocabulary.{need_of, total}
use Rattle.qc_plan.proofs.Meet.{meet}
use Rattle.qc_plan.proofs.laws.dependent_quorums_meet.Goals as goal

pub returns : goal.returns
returns c plan kinds objects object number kind inv event a b admitted numbered typed low known dependent reads writes =
    let heavy : total plan.weights < need_of plan.initial object inv + need_of plan.last object event =
    admitted.meets object number kind inv event numbered typed low known dependent in
    meet plan.weights a b (omega arith)
