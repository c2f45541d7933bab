use Rattle.qc_cert.specs.Vocabulary.{IsLeft}
use Rattle.qc_cert.proofs.blocks.Block.left.Given as goal

abbrev pub invariant-loop-number : goal.invariant-loop-number
invariant-loop-number l = IsLeft l.self l.out l.number l.left
