use Rattle.std.proofs.Common.{◌≡◌, ℕ, [], length, slice_index_or}
use Rattle.qc_cert.specs.Vocabulary.{parts_within}
use Rattle.qc_cert.proofs.groups.close_groups.Given as goal

abbrev pub invariant-groups : goal.invariant-groups
invariant-groups l = record {
  all : length l.groups ≡ 4096;
  same : (group out : ℕ) → parts_within (slice_index_or l.groups group []) out ≡ parts_within
      (slice_index_or l.fn.groups group []) out;
}
