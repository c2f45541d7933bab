use Rattle.std.proofs.Common.{◌≡◌, ◌^◌, ◌-◌, min, take}
use Rattle.qc_msg.specs.Vocabulary.{answered_in_all}
use Rattle.qc_fabric.proofs.weigh.operations_in.Given as goal

abbrev pub invariant-loop-record : goal.invariant-loop-record
invariant-loop-record l = l.total ≡ min (answered_in_all (take l.record-index l.records)) (2 ^ 32 - 1)
