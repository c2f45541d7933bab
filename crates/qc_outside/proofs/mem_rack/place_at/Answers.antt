use Rattle.std.proofs.Common.{◌+◌, ℕ, sym, ◌∙◌, ap, option_copied}
use Rattle.qc_outside.specs.Vocabulary.{Place, is_at}
use Rattle.qc_outside.proofs.Racks.{none_next}
use Rattle.qc_outside.proofs.mem_rack.place_at.Goals as goal

pub loop-kept-preserved : goal.loop-kept-preserved
loop-kept-preserved c =
    let place : Place = record { folder = option_copied c.args.dir; actor = c.args.actor } in (
      ap (λ (n : ℕ). n + 1) c.loop-kept.invariant.0,
      none_next (is_at place) c.args.places.now c.loop-kept.kept-index c.kept-item.result c.loop-kept.invariant.1
          (ap (is_at place) (sym c.kept-item.is) ∙ sym c.is_at.ensures ∙ c.if-is_at.false),
    )
