-- One actor's mailbox: the tray that it shows, and the room in it.
use Rattle.std.specs.Prelude.{ℕ, ◌+◌, ◌≤◌, length}
use Rattle.qc_mailbox.specs.Inboxes.{Tray}
use Rattle.qc_mailbox.specs.Asked.{asked}
use Rattle.qc_mailbox.specs.Queues.{items, spare}
use Rattle.qc_mailbox.specs.declared.mailbox.Mailbox.{Mailbox}

-- what waits in it
abbrev pub tray : Mailbox → Tray
tray m =
    record {
      copies = items m.copies;
      opening = items m.opening;
      late = items m.late;
      unanswered = asked (items m.unanswered);
      lost = items m.lost;
      commands = items m.commands;
      busy = m.busy;
      calls = m.calls;
    }

-- the queues that messages come into have so many places spare, beside those that are wanted when late copies are
-- ready, and when requests without an answer are lost
pub record HasRoom (room : ℕ) (m : Mailbox) : Type 0 where
  pub copies : room + (length (items m.opening) + length (items m.late)) ≤ spare m.copies
  pub opening : room + length (items m.late) ≤ spare m.opening
  pub late : room ≤ spare m.late
  pub unanswered : room ≤ spare m.unanswered
  pub lost : room + length (items m.unanswered) ≤ spare m.lost

-- each of them has at most so many places less
pub record HasUsed (places : ℕ) (old new : Mailbox) : Type 0 where
  pub copies : spare old.copies + (length (items new.opening) + length (items new.late))
      ≤ (spare new.copies + (length (items old.opening) + length (items old.late))) + places
  pub opening : spare old.opening + length (items new.late) ≤ (spare new.opening + length (items old.late)) + places
  pub late : spare old.late ≤ spare new.late + places
  pub unanswered : spare old.unanswered ≤ spare new.unanswered + places
  pub lost : spare old.lost + length (items new.unanswered)
      ≤ (spare new.lost + length (items old.unanswered)) + places
