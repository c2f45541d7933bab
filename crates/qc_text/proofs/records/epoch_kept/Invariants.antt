use Rattle.std.proofs.Common.{◌≡◌, drop}
use Rattle.std.specs.Prelude.{fold}
use Rattle.qc_msg.specs.Vocabulary.{first_epoch}
use Rattle.qc_promise.specs.Vocabulary.{epoch_by}
use Rattle.qc_text.proofs.records.epoch_kept.Given as goal

abbrev pub invariant-records : goal.invariant-records
invariant-records l = fold epoch_by l.epoch (drop l.written-index l.records) ≡ fold epoch_by first_epoch l.records
