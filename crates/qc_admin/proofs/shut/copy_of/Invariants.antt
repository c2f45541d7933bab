use Rattle.std.proofs.Common.{◌≡◌, ◌++◌, drop}
use Rattle.qc_admin.proofs.shut.copy_of.Given as goal

abbrev pub invariant-loop-promise : goal.invariant-loop-promise
invariant-loop-promise l = l.copy ++ drop l.promise-index l.promise-items ≡ l.prepared
