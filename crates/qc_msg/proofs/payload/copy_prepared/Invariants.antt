use Rattle.std.proofs.Common.{◌≡◌, take}
use Rattle.qc_msg.proofs.payload.copy_prepared.Given as goal

abbrev pub invariant-loop-promise : goal.invariant-loop-promise
invariant-loop-promise l = l.copy ≡ take l.promise-index l.prepared
