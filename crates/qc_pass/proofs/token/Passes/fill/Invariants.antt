use Rattle.std.proofs.Common.{length, ◌-◌, ◌≤◌}
use Rattle.qc_pass.specs.Vocabulary.{IsSetUp, table_of}
use Rattle.qc_pass.proofs.token.Passes.fill.Given as goal

abbrev pub invariant-loop-right : goal.invariant-loop-right
invariant-loop-right g l = (length l.each.items ≤ l.actors)
    × IsSetUp {E = g.row.E.Denot} (table_of {E = g.row.E.Denot} l.self) l.right l.each.items

abbrev pub decreases-loop-right : goal.decreases-loop-right
decreases-loop-right g l = l.actors - length l.each.items
