use Rattle.std.proofs.Common.{◌≡◌, ℕ, length}
use Rattle.qc_cert.specs.Vocabulary.{AreParted, parts_within}
use Rattle.qc_cert.proofs.parts.fill.Given as goal

abbrev pub invariant-parts : goal.invariant-parts
invariant-parts l = record {
  parted : AreParted l.parts.items;
  all : length l.parts.items ≡ l._part;
  same : (out : ℕ) → parts_within l.parts.items out ≡ parts_within l.fn.parts.items out;
}
