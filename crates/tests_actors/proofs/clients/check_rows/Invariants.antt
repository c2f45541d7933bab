-- The client stays young over its inputs.
use Rattle.tests_actors.specs.Young.{IsYoung}
use Rattle.tests_actors.proofs.clients.check_rows.Given as goal

abbrev pub invariant-loop-row : goal.invariant-loop-row
invariant-loop-row g l = IsYoung l.decl l.client l.place
