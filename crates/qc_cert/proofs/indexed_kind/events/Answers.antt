use Rattle.std.proofs.Common.{◌≡◌, ◌+◌, sym, subst, ◌∙◌}
use Rattle.qc_cert.proofs.Told.{AreBelow, below_passed, below_with}
use Rattle.qc_cert.specs.Vocabulary.{inv_of}
use Rattle.qc_cert.proofs.indexed_kind.events.Goals as goal
use Rattle.qc_cert.proofs.indexed_kind.events.Goals.{then-inv_of-inv, else-inv_of-inv}

pub loop-event-preserved : goal.loop-event-preserved
loop-event-preserved c =
    let kind = c.args.kind.now in
    let n = c.loop-event.event in
    let old : AreBelow kind c.args.inv n c.loop-event.set =
    record { all = c.loop-event.invariant.all; within = c.loop-event.invariant.within } in
    let new : AreBelow kind c.args.inv (n + 1) c.if-inv_of-inv.set = elim c.if-inv_of-inv.branch [
      | then-inv_of-inv w ↦ subst (AreBelow kind c.args.inv (n + 1)) (sym (w.set-is ∙ w.with_event-set.ensures))
          (below_with kind c.args.inv n c.loop-event.set old)
      | else-inv_of-inv w ↦ subst (AreBelow kind c.args.inv (n + 1)) (sym w.set-is)
          (below_passed kind c.args.inv n c.loop-event.set
          (λ (same : inv_of kind n ≡ c.args.inv). w.if-inv_of-inv.false (c.inv_of.ensures ∙ same)) old)
    ] in
    record { all = new.all; within = new.within }
