use Rattle.std.proofs.Common.{[], ap, ◌∙◌, map}
use Rattle.qc_promise.specs.Vocabulary.{Lines, lines_from, recorded_from}
use Rattle.qc_text.specs.Vocabulary.{deed_of}
use Rattle.qc_text.proofs.lines.log_of.Goals as goal

pub deeds-init : goal.deeds-init
deeds-init c =
    let life = c.args.current.now in (
      life.kept.now,
      c.in_ok-give_all.ensures.last,
      ap (λ (lines : Lines). lines_from lines life.kept.now (map deed_of life.since.now))
          (c.in_ok-give_all.ensures.given ∙ ap (λ (lines : Lines). recorded_from lines [] life.kept.now)
          c.in_ok-known.ensures),
    )
