use Rattle.tests_fabric.proofs.Seats.{rises_on}
use Rattle.tests_fabric.proofs.seat.Seat.restart.Goals as goal

pub invariant_of-self : goal.invariant_of-self
invariant_of-self g c =
    rw c.down_by-down.ensures
    (rises_on c.rise-first.new.pass c.self.invariant c.in-Some.rising c.rise-first.result c.rise-first.ensures.told)
