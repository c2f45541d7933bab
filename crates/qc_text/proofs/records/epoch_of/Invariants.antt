use Rattle.std.proofs.Common.{◌≡◌, drop, map}
use Rattle.std.specs.Prelude.{fold}
use Rattle.std.specs.List.{filter_map}
use Rattle.qc_msg.specs.Vocabulary.{written_in}
use Rattle.qc_promise.specs.Vocabulary.{epoch_by}
use Rattle.qc_text.specs.Vocabulary.{deed_of, epoch_in, present}
use Rattle.qc_text.proofs.records.epoch_of.Given as goal

abbrev pub invariant-deeds : goal.invariant-deeds
invariant-deeds l = fold epoch_by l.epoch (filter_map written_in (map deed_of (drop l.deed-index l.current.since.now)))
    ≡ epoch_in (present l.current)
