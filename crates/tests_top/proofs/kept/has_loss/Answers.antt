use Rattle.std.proofs.Common.{take}
use Rattle.qc_msg.specs.Vocabulary.{own}
use Rattle.tests_top.proofs.Standing.{kept_there}
use Rattle.tests_top.proofs.kept.has_loss.Goals as goal

pub returns-then-is_loss : goal.returns-then-is_loss
returns-then-is_loss c _ kept =
    let e = c.index-entries-index.result in
    let all = c.args.entries.now in
    c.is_loss.ensures c.if-is_loss.true (own e.actor (take c.loop-index.index all)) c.standing.ensures
    (kept_there c.loop-index.index e all c.loop-index-test.true c.index-entries-index.is kept)
