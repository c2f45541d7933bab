use Rattle.std.proofs.Common.{◌≡◌, take}
use Rattle.qc_cert.specs.Vocabulary.{any_within}
use Rattle.qc_cert.proofs.blocks.any_within.Given as goal

abbrev pub invariant-loop-set : goal.invariant-loop-set
invariant-loop-set l = l.covered ≡ any_within (take l.set-index l.sets) l.out
