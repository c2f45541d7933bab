use Rattle.std.proofs.Common.{◌≡◌, ◌+◌, ◌≤◌, drop, fold}
use Rattle.qc_recover.specs.Vocabulary.{keeps, kept_by}
use Rattle.qc_recover.proofs.site.kept_by.Given as goal

abbrev pub invariant-records : goal.invariant-records
invariant-records l = record {
  rest : fold keeps l.kept (drop l.rec-index l.records) ≡ kept_by l.records;
  life : l.kept.life ≤ 1 + l.rec-index;
}
