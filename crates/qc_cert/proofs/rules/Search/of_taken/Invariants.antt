use Rattle.std.proofs.Common.{◌≡◌, ◌<◌, ◌≤◌, ◌^◌, ℕ, None, true, false, length}
use Rattle.qc_cert.specs.Vocabulary.{taken_fault}
use Rattle.qc_table.specs.Vocabulary.{events_of, has}
use Rattle.qc_cert.proofs.rules.Search.of_taken.Given as goal

abbrev pub invariant-turns : goal.invariant-turns
invariant-turns l = record {
  small : l.rest < 2 ^ 64;
  left : (k : ℕ) → has l.rest k ≡ true → l._turn ≤ k;
  within : (k : ℕ) → has l.rest k ≡ true → k < length (events_of l.self.kind.now.table.rows);
  none : (k : ℕ) → k < length (events_of l.self.kind.now.table.rows) → has l.rest k ≡ false
      → taken_fault l.self.kind.now l.self.triples.now l.self.place l.self.triple.now l.inv k ≡ None;
}
