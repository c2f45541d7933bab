-- What is kept of the inboxes is what the history gives, through falls too.
use Rattle.std.specs.Prelude.{◌*◌, ◌≡◌, ℕ, ◌<◌, Bool, true, List, Option, Some, None, length, map, slice_get}
use Rattle.std.specs.List.{AllByRecursion as Every}
use Rattle.qc_msg.specs.declared.message.Envelope.{Envelope}
use Rattle.qc_msg.specs.Vocabulary.{Entry, mail}
use Rattle.qc_msg.specs.declared.record.Record.{Record}
use Rattle.qc_msg.specs.declared.turn.Appended.{Appended}
use Rattle.qc_msg.specs.declared.turn.Appended.TheVariants.{Done, Failed, Stopped}
use Rattle.qc_script.specs.Vocabulary.{Inbox, count_of, inbox}
use Rattle.qc_script.specs.declared.script.Script.{Script}
use Rattle.qc_mailbox.specs.Inboxes.{Inboxes, Tray}
use Rattle.qc_mailbox.specs.Picks.{calls_of}
use Rattle.qc_mailbox.specs.Rooms.{tray_at}
use Rattle.qc_mailbox.specs.Tallies.{count}
use Rattle.qc_link.specs.Vocabulary.{most_actors}

abbrev pub numbers_of : List Envelope → List ℕ
numbers_of es = map (λ (e : Envelope). e.number) es

-- the tray of an inbox whose actor called so many commands in this phase
abbrev pub tray_of : ℕ → Inbox → Tray
tray_of calls i =
    record {
      copies = numbers_of i.copies;
      opening = numbers_of i.opening;
      late = numbers_of i.late;
      unanswered = i.unanswered;
      lost = i.lost;
      commands = i.commands;
      busy = i.busy;
      calls = calls;
    }

-- what is kept shows an inbox of actor a
pub record Shows (kept : Inboxes) (a calls : ℕ) (i : Inbox) : Type 0 where
  pub cuts : i.cuts ≡ kept.cuts
  pub up : i.up ≡ kept.up
  pub controls : i.controls ≡ kept.controls
  -- one table of counts serves senders and receivers
  pub from_each : (b : ℕ) → b < most_actors → count_of i.from_each b ≡ count kept.counts b a
  pub to_each : (b : ℕ) → b < most_actors → count_of i.to_each b ≡ count kept.counts a b
  pub from_length : length i.from_each ≡ most_actors
  pub to_length : length i.to_each ≡ most_actors
  pub tray : tray_at kept.trays a ≡ tray_of calls i

-- each message is found under its number
abbrev pub AreNumbered : List Envelope → Type 0
AreNumbered ms = (n : ℕ) (e : Envelope) → slice_get ms n ≡ Some e → e.number ≡ n

-- each message goes from an actor to one
abbrev pub AreBetweenActors : List Envelope → Type 0
AreBetweenActors ms = Every (λ (e : Envelope). (e.from < most_actors) × (e.to < most_actors)) ms

pub record IsKept (script : Script) (h : List Entry) (kept : Inboxes) : Type 0 where
  pub links : kept.links ≡ script.links
  pub sent : kept.counts.all ≡ length (mail h)
  pub numbered : AreNumbered (mail h)
  pub ends : AreBetweenActors (mail h)
  pub counts : length kept.counts.each ≡ most_actors * most_actors
  pub ups : length kept.up ≡ most_actors
  pub trays : length kept.trays ≡ most_actors
  pub inboxes : (a : ℕ) → a < most_actors → Shows kept a (calls_of a h) (inbox script a h)

-- who writes a record is up
abbrev pub MayWrite : Bool → Option Record → Type 0
MayWrite up None = Unit {0}
MayWrite up (Some written) = up ≡ true

-- who posts a turn is up where it has a record, or falls in it
abbrev pub MayPost : Bool → Appended → Option Record → Type 0
MayPost up Done write = MayWrite up write
MayPost up Failed write = up ≡ true
MayPost up Stopped write = up ≡ true
