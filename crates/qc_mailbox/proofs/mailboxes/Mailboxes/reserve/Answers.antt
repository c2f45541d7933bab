use Rattle.std.proofs.Common.{◌∙◌}
use Rattle.qc_mailbox.proofs.mailboxes.Mailboxes.reserve.Goals as goal

pub invariant_of-self : goal.invariant_of-self
invariant_of-self c = record {
  boxes_are = c.reserve.ensures.length ∙ c.self.invariant.boxes_are;
  room_is = c.reserve.ensures.kept _ c.self.invariant.room_is;
}
