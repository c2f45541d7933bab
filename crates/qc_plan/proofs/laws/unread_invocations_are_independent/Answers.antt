use Rattle.std.proofs.Common.{◌+◌, ◌<◌, ◌≤◌, arith}
use Rattle.std.proofs.lemmas.Bool.{false_from_ne_true}
use Rattle.qc_plan.specs.Vocabulary.{need_of, total}
use Rattle.qc_table.specs.Vocabulary.{depends}
use Rattle.qc_plan.proofs.laws.unread_invocations_are_independent.Goals as goal

pub returns : goal.returns
returns c plan kinds objects object number kind inv event admitted numbered typed low known unread =
    let light : need_of plan.last object event ≤ total plan.weights = admitted.last_light object event in
    false_from_ne_true (depends kind.relation inv event)
    (λ dependent. let heavy : total plan.weights < need_of plan.initial object inv + need_of plan.last object event =
    admitted.meets object number kind inv event numbered typed low known dependent in absurd (omega arith))
