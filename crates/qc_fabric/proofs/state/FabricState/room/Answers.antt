use Rattle.std.proofs.Common.{rules, ◌+◌, ◌≤◌, arith, length, refl}
use Rattle.qc_fabric.specs.Vocabulary.{most_history}
use Rattle.qc_fabric.proofs.KeptParts.{other_memory, other_spare}
use Rattle.qc_fabric.proofs.state.FabricState.room.Goals as goal

pub invariant_of-self : goal.invariant_of-self
invariant_of-self g c = other_memory c.self.invariant c.reserve.new.self c.self.inside.mailboxes
    c.self.inside.held.items c.in_err-reserve.ensures.same refl
    (omega (arith, c.self.invariant.log_room, c.in_err-reserve.ensures.kept)) c.self.invariant.mail_room
    c.self.invariant.helds

pub invariant_of-self-in_err-reserve-2 : goal.invariant_of-self-in_err-reserve-2
invariant_of-self-in_err-reserve-2 g c =
    other_memory c.self.invariant c.reserve.new.self c.reserve-2.new.self c.self.inside.held.items
    c.in_ok-reserve.ensures.same c.in_err-reserve-2.ensures.same
    (omega (arith, c.self.invariant.log_room, c.in_ok-reserve.ensures.kept))
    (omega (arith, c.self.invariant.mail_room, c.in_err-reserve-2.ensures.kept)) c.self.invariant.helds

pub invariant_of-self-2 : goal.invariant_of-self-2
invariant_of-self-2 g c =
    let log_fits : c.self.inside.reserved + c.in_ok-size.size ≤ c.reserve.new.self.room = search (rules, arith) in
    let mail_fits : c.self.inside.reserved + c.in_ok-size.size ≤ c.reserve-2.new.self.room = search (rules, arith) in
    let bound : length c.self.inside.log.history + (c.self.inside.reserved + c.in_ok-size.size) ≤ most_history =
    search (rules, arith) in
    other_spare c.self.invariant c.reserve.new.self c.reserve-2.new.self c.in_ok-size.size c.in_ok-reserve.ensures.same
    c.in_ok-reserve-2.ensures.same log_fits mail_fits bound
