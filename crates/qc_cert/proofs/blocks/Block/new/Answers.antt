use Rattle.std.proofs.Common.{subst}
use Rattle.qc_cert.specs.Vocabulary.{AreRows}
use Rattle.qc_cert.proofs.blocks.Block.new.Goals as goal

pub invariant_of-result : goal.invariant_of-result
invariant_of-result c = record {
  few = c.requires.few;
  small = c.requires.small;
  all = c.in_ok-rows.ensures.all;
  told = subst (λ sets. AreRows sets c.in_ok-rows.rows.items) c.deref.ensures.value c.in_ok-rows.ensures.rows;
}
