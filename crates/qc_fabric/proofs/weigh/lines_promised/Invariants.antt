use Rattle.std.proofs.Common.{◌≡◌, ◌^◌, ◌-◌, min, take}
use Rattle.qc_msg.specs.Vocabulary.{lines_promised}
use Rattle.qc_fabric.proofs.weigh.lines_promised.Given as goal

abbrev pub invariant-loop-promise : goal.invariant-loop-promise
invariant-loop-promise l = l.total ≡ min (lines_promised (take l.promise-index l.prepared)) (2 ^ 32 - 1)
