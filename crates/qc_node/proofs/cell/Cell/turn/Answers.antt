use Rattle.qc_node.proofs.Kept.{cell_over_others}
use Rattle.qc_node.proofs.cell.Cell.turn.Goals as goal

pub invariant_of-self : goal.invariant_of-self
invariant_of-self g c =
    cell_over_others g.N.RunName.tells g.N.RunName.declaration c.self.inside.pass c.leave.new.pass g.N.RunName.table
    c.self.inside.given_up c.self.inside.process c.self.invariant c.leave.ensures.saw c.leave.ensures.room
