use Rattle.std.proofs.Common.{rules, ◌+◌, ◌-◌, ◌*◌, ◌<◌, ◌≤◌, ◌∙◌, arith}
use Rattle.qc_mailbox.proofs.Room.{less_room}
use Rattle.qc_mailbox.proofs.mailboxes.Mailboxes.send.Goals as goal

pub go-requires-clause-room : goal.go-requires-clause-room
go-requires-clause-room c =
    let some : 0 < c.self.inside.room = search (rules, arith) in
    let enough : 1 + 3 ≤ 4 * c.self.inside.room = omega (arith, some) in
    c.come.ensures.room 1 (less_room (4 * c.self.inside.room)
    (1 + 3) c.self.inside.boxes.items enough c.self.invariant.room_is)

pub invariant_of-self : goal.invariant_of-self
invariant_of-self c =
    let some : 0 < c.self.inside.room = search (rules, arith) in
    let left : (4 * (c.self.inside.room - 1) + 1) + 3 ≤ 4 * c.self.inside.room = omega (arith, some) in
    record {
      boxes_are = c.go.ensures.length ∙ (c.come.ensures.length ∙ c.self.invariant.boxes_are);
      room_is = c.go.ensures.room (4 * (c.self.inside.room - 1)) (c.come.ensures.room (4 * (c.self.inside.room - 1) + 1)
          (less_room (4 * c.self.inside.room) ((4 * (c.self.inside.room - 1) + 1) + 3) c.self.inside.boxes.items left
          c.self.invariant.room_is));
    }
