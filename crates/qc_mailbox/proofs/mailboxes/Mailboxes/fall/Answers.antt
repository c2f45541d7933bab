use Rattle.std.proofs.Common.{◌∙◌}
use Rattle.qc_mailbox.proofs.mailboxes.Mailboxes.fall.Goals as goal

pub invariant_of-self : goal.invariant_of-self
invariant_of-self c = record {
  boxes_are = c.fall.ensures.length ∙ (c.lose.ensures.length ∙ c.self.invariant.boxes_are);
  room_is = c.fall.ensures.room _ (c.lose.ensures.room _ c.self.invariant.room_is);
}
