use Rattle.std.proofs.Common.{drop}
use Rattle.tests_top.proofs.Standing.{StandIn}
use Rattle.tests_top.proofs.kept.standing.Given as goal

abbrev pub invariant-entries : goal.invariant-entries
invariant-entries l = StandIn l.count l.actor (drop l.entry-index l.entries) l.entries
