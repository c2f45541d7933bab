use Rattle.std.proofs.Common.{◌≡◌, length}
use Rattle.qc_cert.specs.Vocabulary.{AreRows}
use Rattle.qc_cert.proofs.blocks.rows.Given as goal

abbrev pub invariant-rows : goal.invariant-rows
invariant-rows l = record {
  all : length l.rows.items ≡ l.place;
  rows : AreRows l.sets l.rows.items;
}
