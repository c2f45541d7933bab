use Rattle.std.proofs.Common.{◌≡◌, take}
use Rattle.qc_cert.specs.Vocabulary.{any_within}
use Rattle.qc_cert.proofs.parts.Part.covers.Given as goal

abbrev pub invariant-loop-set : goal.invariant-loop-set
invariant-loop-set l = l.covered ≡ any_within (take l.set-index l.set-items) l.out
