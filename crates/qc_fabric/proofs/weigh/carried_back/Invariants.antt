use Rattle.std.proofs.Common.{◌≡◌, ◌^◌, ◌-◌, min, take}
use Rattle.qc_msg.specs.Vocabulary.{carried_back}
use Rattle.qc_fabric.proofs.weigh.carried_back.Given as goal

abbrev pub invariant-loop-record : goal.invariant-loop-record
invariant-loop-record l = l.total ≡ min (carried_back (take l.record-index l.records)) (2 ^ 32 - 1)
