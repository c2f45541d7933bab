-- What is kept in mailboxes: the inboxes that they show, and room.
use Rattle.std.specs.Prelude.{ℕ, ◌≡◌, ◌*◌, List, Bool, length, map}
use Rattle.std.specs.List.{AllByRecursion as Every}
use Rattle.qc_mailbox.specs.Inboxes.{Inboxes}
use Rattle.qc_mailbox.specs.Tallies.{Tally}
use Rattle.qc_link.specs.declared.plan.Link.{Link}
use Rattle.qc_msg.specs.declared.step.Control.{Control}
use Rattle.qc_mailbox.specs.Boxes.{HasRoom, tray}
use Rattle.qc_mailbox.specs.Queues.{items}
use Rattle.qc_mailbox.specs.declared.mailbox.Mailbox.{Mailbox}
use Rattle.qc_mailbox.specs.declared.queue.Queue.{Queue}
use Rattle.qc_link.specs.Vocabulary.{most_actors}

-- the inboxes, and for how many messages there is room
pub record Roomy : Type 0 where
  pub inboxes : Inboxes
  pub room : ℕ

abbrev pub shown : List Link → List Bool → List Bool → Tally → Queue Control → List Mailbox → Inboxes
shown links cuts up counts controls boxes =
    record {
      links = links;
      cuts = cuts;
      up = up;
      counts = counts;
      controls = items controls;
      trays = map tray boxes;
    }

-- a message takes at most four places of each queue
abbrev pub places_of : ℕ → ℕ
places_of messages = 4 * messages

pub record IsRoomy (room : ℕ) (boxes : List Mailbox) : Type 0 where
  pub boxes_are : length boxes ≡ most_actors
  pub room_is : Every (HasRoom (places_of room)) boxes
