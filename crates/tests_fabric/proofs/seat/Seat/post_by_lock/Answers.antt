use Rattle.tests_fabric.proofs.Seats.{posts_on, sees_on}
use Rattle.tests_fabric.proofs.seat.Seat.post_by_lock.Goals as goal

pub invariant_of-self-2 : goal.invariant_of-self-2
invariant_of-self-2 g c = rw c.down_after-self-inside.ensures
    (posts_on c.post-first.new.pass (sees_on c.reserve.new.pass c.self.invariant c.in_ok-reserve.ensures.ok.0)
    c.in-Some.turn c.post-first.result c.post-first.ensures.told)
