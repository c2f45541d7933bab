use Rattle.std.proofs.Common.{◌≡◌, false, take}
use Rattle.qc_cert.specs.Vocabulary.{parts_within}
use Rattle.qc_cert.proofs.blocks.covers.Given as goal

abbrev pub invariant-loop-block : goal.invariant-loop-block
invariant-loop-block l = parts_within (take l.block-index l.blocks) l.out ≡ false
