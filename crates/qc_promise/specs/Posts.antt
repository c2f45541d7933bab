-- What an actor posts for an input, or as it rises: what it does until its next input, a fall of its disk included. And
-- the posts that a turn may have: its record is written, fails or stops.
use Rattle.std.specs.Prelude.{◌≡◌, List, [], ◌∷◌, ◌++◌, map, Option, Some, None}
use Rattle.std.specs.List.{filter_map}
use Rattle.std.specs.Option.{option_map_or}
use Rattle.qc_msg.specs.declared.record.Record.{Record}
use Rattle.qc_msg.specs.declared.reply.Reply.{Reply}
use Rattle.qc_msg.specs.declared.step.Fall.{Fall}
use Rattle.qc_msg.specs.declared.step.Fall.TheVariants as causes
use Rattle.qc_msg.specs.declared.turn.Posting.{Posting}
use Rattle.qc_msg.specs.Vocabulary.{Deed, Falls, Rises, Sends, Takes, Tells, Writes}

pub data Act : Type 0 where
  Wrote : (written : Record) → Act
  Sent : (posting : Posting) → Act
  Told : (reply : Reply) → Act
  Fell : (cause : Fall) (pending : Option Record) → Act

-- a fall of the script's stands outside of the post
abbrev pub fell_by : Fall → Option Record → List Act
fell_by causes.Script pending = []
fell_by causes.Stop pending = Fell causes.Stop pending ∷ []
fell_by causes.Disk pending = Fell causes.Disk pending ∷ []

abbrev pub posted_next : List Deed → List Act
posted_next [] = []
posted_next (Takes given ∷ ds) = []
posted_next (Writes written ∷ ds) = Wrote written ∷ posted_next ds
posted_next (Sends number to message ∷ ds) = Sent (record { to = to; message = message }) ∷ posted_next ds
posted_next (Tells reply ∷ ds) = Told reply ∷ posted_next ds
posted_next (Falls cause pending ∷ ds) = fell_by cause pending
posted_next (Rises records ∷ ds) = []

-- the messages of a post

abbrev pub sent_by : Act → Option Posting
sent_by (Wrote written) = None
sent_by (Sent posting) = Some posting
sent_by (Told reply) = None
sent_by (Fell cause pending) = None

abbrev pub sent_next : List Deed → List Posting
sent_next after = filter_map sent_by (posted_next after)

-- the cause of the fall that ends a post, if one does

abbrev pub fallen_in : List Act → Option Fall
fallen_in [] = None
fallen_in (Wrote written ∷ acts) = fallen_in acts
fallen_in (Sent posting ∷ acts) = fallen_in acts
fallen_in (Told reply ∷ acts) = fallen_in acts
fallen_in (Fell cause pending ∷ acts) = Some cause

-- the record that was being written at the fall that comes next in a post, if one does

abbrev pub pending_first : List Act → Option Record
pending_first [] = None
pending_first (Wrote written ∷ acts) = None
pending_first (Sent posting ∷ acts) = None
pending_first (Told reply ∷ acts) = None
pending_first (Fell cause pending ∷ acts) = pending

abbrev pub pending_next : List Deed → Option Record
pending_next after = pending_first (posted_next after)

-- a turn: the record that it writes, what is sent then, and what is sent where its record failed
pub record TurnDue : Type 0 where
  pub write : Option Record
  pub sends : List Posting
  pub failed_sends : List Posting

abbrev pub quiet_turn : TurnDue
quiet_turn = record { write = None; sends = []; failed_sends = [] }

abbrev pub sending : List Posting → TurnDue
sending sends = record { write = None; sends = sends; failed_sends = [] }

-- its post: the record before all that is sent; where it failed or stopped, the fall last. Only a turn with a record
-- falls

abbrev pub ends_with : TurnDue → Record → Option Fall → List Act
ends_with t written None = Wrote written ∷ map Sent t.sends
ends_with t written (Some causes.Script) = Wrote written ∷ map Sent t.sends
ends_with t written (Some causes.Stop) = Fell causes.Stop (Some written) ∷ []
ends_with t written (Some causes.Disk) = map Sent t.failed_sends ++ Fell causes.Disk (Some written) ∷ []

abbrev pub posted_due : TurnDue → Option Fall → List Act
posted_due t end = option_map_or (λ (r : Record). ends_with t r end) t.write (map Sent t.sends)

-- the post is one of that turn's
abbrev pub IsPostOf : TurnDue → List Deed → Type 0
IsPostOf t after = posted_next after ≡ posted_due t (fallen_in (posted_next after))
