use Rattle.std.proofs.Common.{◌≡◌, ◌<◌, ◌≤◌, ◌^◌, ℕ, None, true, false, length}
use Rattle.qc_cert.specs.Vocabulary.{taken_fault}
use Rattle.qc_table.specs.Vocabulary.{events_of, has}
use Rattle.qc_cert.proofs.faultless_walk.are_taken_covered.Given as goal

abbrev pub invariant-turns : goal.invariant-turns
invariant-turns l = record {
  same : l.covered ≡ l.fn.covered;
  small : l.rest < 2 ^ 64;
  left : (k : ℕ) → has l.rest k ≡ true → l._turn ≤ k;
  none : (k : ℕ) → k < length (events_of l.kind.table.rows) → has l.rest k ≡ false
      → taken_fault l.kind l.fn.covered.list 0 l.triple l.inv k ≡ None;
}
