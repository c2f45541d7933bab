use Rattle.std.proofs.Common.{◌≡◌, [], drop, take}
use Rattle.qc_promise.specs.Vocabulary.{recorded_from}
use Rattle.qc_text.specs.Vocabulary.{AreLast}
use Rattle.qc_text.proofs.lines.give_all.Given as goal

abbrev pub invariant-records : goal.invariant-records
invariant-records l = record {
  last : AreLast l.prepares (take l.written-index l.kept);
  given : recorded_from l.known (take l.written-index l.kept) (drop l.written-index l.kept)
      ≡ recorded_from l.initial.known [] l.kept;
}
