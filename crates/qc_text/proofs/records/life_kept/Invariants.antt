use Rattle.std.proofs.Common.{◌≡◌, ◌≤◌, ◌+◌, drop}
use Rattle.std.specs.Prelude.{fold}
use Rattle.qc_promise.specs.Vocabulary.{life_by}
use Rattle.qc_stamp.specs.Vocabulary.{first_life}
use Rattle.qc_text.proofs.records.life_kept.Given as goal

abbrev pub invariant-records : goal.invariant-records
invariant-records l = record {
  shown : fold life_by l.life (drop l.written-index l.records) ≡ fold life_by first_life l.records;
  few : l.life ≤ l.written-index + 1;
}
