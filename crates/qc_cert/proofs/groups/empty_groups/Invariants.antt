use Rattle.std.proofs.Common.{◌≡◌, ℕ, false, [], length, slice_index_or}
use Rattle.qc_cert.specs.Vocabulary.{parts_within}
use Rattle.qc_cert.proofs.groups.empty_groups.Given as goal

abbrev pub invariant-groups : goal.invariant-groups
invariant-groups l = record {
  all : length l.groups.items ≡ l._group;
  empty : (place out : ℕ) → parts_within (slice_index_or l.groups.items place []) out ≡ false;
}
