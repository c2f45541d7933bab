use Rattle.std.proofs.Common.{◌≡◌, ◌≤◌, ◌+◌, count_by, drop}
use Rattle.qc_text.specs.Vocabulary.{tells_aborted}
use Rattle.qc_text.proofs.loads.aborted.Given as goal

abbrev pub invariant-entries : goal.invariant-entries
invariant-entries l = record {
  few : l.count ≤ l.entry-index;
  left : l.count + count_by tells_aborted (drop l.entry-index l.entries) ≡ count_by tells_aborted l.entries;
}
