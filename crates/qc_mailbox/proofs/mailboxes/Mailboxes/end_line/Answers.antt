use Rattle.std.proofs.Common.{◌∙◌}
use Rattle.qc_mailbox.proofs.mailboxes.Mailboxes.end_line.Goals as goal

pub invariant_of-self : goal.invariant_of-self
invariant_of-self c = record {
  boxes_are = c.open.ensures.length ∙ c.self.invariant.boxes_are;
  room_is = c.open.ensures.room _ c.self.invariant.room_is;
}
