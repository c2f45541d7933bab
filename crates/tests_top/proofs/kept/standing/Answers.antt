use Rattle.std.proofs.Common.{ℕ, ◌+◌, drop, subst, sym}
use Rattle.tests_top.proofs.Standing.{StandIn, stand_first, stand_mine, stand_next, stand_other}
use Rattle.tests_top.proofs.kept.standing.Goals as goal
use Rattle.tests_top.proofs.kept.standing.Goals.{then-entry-actor, else-entry-actor}

pub entries-init : goal.entries-init
entries-init c = stand_first c.args.actor c.args.entries.now

pub entries-preserved : goal.entries-preserved
entries-preserved c =
    let all = c.args.entries.now in
    let later = drop (c.entries.entry-index + 1) all in
    let its = stand_next c.entries.count c.args.actor c.entries.entry-index c.entry-item.result all c.entries-test.true
    c.entry-item.is c.entries.invariant in
    elim c.if-entry-actor.branch [
      | then-entry-actor w ↦ subst (λ (n : ℕ). StandIn n c.args.actor later all) (sym w.count-is)
          (stand_mine c.entries.count w.standing_after-count.result c.args.actor c.entry-item.result later all its
          w.if-entry-actor.true w.standing_after-count.ensures)
      | else-entry-actor w ↦ subst (λ (n : ℕ). StandIn n c.args.actor later all) (sym w.count-is)
          (stand_other c.entries.count c.args.actor c.entry-item.result later all its w.if-entry-actor.false)
    ]
