use Rattle.std.proofs.Common.{◌≡◌, ℕ, [], length, drop, slice_index_or}
use Rattle.std.specs.Prelude.{◌||◌}
use Rattle.qc_cert.specs.Vocabulary.{any_within, marked, outs_at, parts_within}
use Rattle.qc_cert.proofs.groups.add_triples.Given as goal

abbrev pub invariant-triples : goal.invariant-triples
invariant-triples l = record {
  all : length l.groups ≡ 4096;
  outs : (group out : ℕ) → (parts_within (slice_index_or l.groups group []) out
      || any_within (outs_at (marked (drop l.place l.marks) (drop l.place l.list)) group) out) ≡ any_within
      (outs_at (marked l.marks l.list) group) out;
}
