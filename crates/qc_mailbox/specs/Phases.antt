-- A mailbox that has the memory that the next phase wants.
use Rattle.std.specs.Prelude.{ℕ, ◌≡◌, ◌≤◌}
use Rattle.qc_mailbox.specs.Boxes.{HasRoom}
use Rattle.qc_mailbox.specs.Queues.{spare}
use Rattle.qc_mailbox.specs.declared.mailbox.Mailbox.{Mailbox}

-- this room is there, and so many commands find places
pub record IsPrepared (room commands : ℕ) (m : Mailbox) : Type 0 where
  pub has_room : HasRoom room m
  pub commands_fit : commands ≤ spare m.commands

-- all but the commands is as it was
pub record HasOthers (old new : Mailbox) : Type 0 where
  pub copies : new.copies ≡ old.copies
  pub opening : new.opening ≡ old.opening
  pub late : new.late ≡ old.late
  pub unanswered : new.unanswered ≡ old.unanswered
  pub lost : new.lost ≡ old.lost
