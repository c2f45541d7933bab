use Rattle.std.proofs.Common.{◌≡◌, vec_len}
use Rattle.tests_base.proofs.tables.fault_of_cases.Given as goal

abbrev pub invariant-loop-number : goal.invariant-loop-number
invariant-loop-number l = vec_len l.rows ≡ l.number
