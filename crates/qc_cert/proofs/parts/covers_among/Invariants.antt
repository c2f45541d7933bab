use Rattle.std.proofs.Common.{◌≡◌, ◌<◌, ◌≤◌, ◌^◌, ℕ, [], true, false, slice_index_or}
use Rattle.qc_cert.specs.Vocabulary.{any_within}
use Rattle.qc_table.specs.Vocabulary.{has}
use Rattle.qc_cert.proofs.parts.covers_among.Given as goal

abbrev pub invariant-turns : goal.invariant-turns
invariant-turns l = record {
  small : l.rest < 2 ^ 64;
  left : (k : ℕ) → has l.rest k ≡ true → l._turn ≤ k;
  looked : (k : ℕ) → has l.events k ≡ true → has l.rest k ≡ false
      → any_within (slice_index_or l.parts k []) l.out ≡ false;
}
