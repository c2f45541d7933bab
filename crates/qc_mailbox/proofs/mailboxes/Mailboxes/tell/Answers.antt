use Rattle.std.proofs.Common.{◌∙◌}
use Rattle.qc_mailbox.proofs.mailboxes.Mailboxes.tell.Goals as goal

pub invariant_of-self : goal.invariant_of-self
invariant_of-self c = record {
  boxes_are = c.tell.ensures.length ∙ c.self.invariant.boxes_are;
  room_is = c.tell.ensures.room _ c.self.invariant.room_is;
}
