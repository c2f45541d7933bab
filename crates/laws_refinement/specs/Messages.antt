-- What stands behind each message: what its sender has done in the machine.
use Rattle.std.specs.Prelude.{◌≡◌, ◌≢◌, ◌⊎◌, ℕ, suc, ◌<◌, ◌≤◌, true, List, Some, None, slice_get}
use Rattle.qc_stamp.specs.declared.stamp.TxId.{TxId}
use Rattle.qc_list.specs.Vocabulary.{In}
use Rattle.qc_entry.specs.declared.line.Line.{Line}
use Rattle.qc_entry.specs.declared.line.OwnLine.{OwnLine}
use Rattle.qc_entry.specs.declared.record.Prepared.{Prepared}
use Rattle.qc_entry.specs.Vocabulary.{IsAscending, no_mark}
use Rattle.qc_decl.specs.Vocabulary.{client_actor, is_site}
use Rattle.qc_decl.specs.declared.declaration.Declaration.{Declaration}
use Rattle.qc_msg.specs.declared.message.Answer.{Answer}
use Rattle.qc_msg.specs.declared.message.Answer.TheVariants as answers
use Rattle.qc_msg.specs.declared.message.Envelope.{Envelope}
use Rattle.qc_msg.specs.declared.message.Message.{Message}
use Rattle.qc_msg.specs.declared.message.Message.TheVariants as messages
use Rattle.qc_msg.specs.declared.message.Outcome.{Outcome}
use Rattle.qc_msg.specs.declared.message.Outcome.TheVariants as outcomes
use Rattle.qc_msg.specs.declared.message.Want.{Want}
use Rattle.qc_msg.specs.declared.message.Want.TheVariants.{Read, Append, Prepare}
use Rattle.qc_msg.specs.declared.payload.Grant.{Grant}
use Rattle.qc_msg.specs.Vocabulary.{first_read}
use Rattle.theory_machine.specs.Vocabulary.{Granted, MayPrepare, NotBegun, Snapshot, State, YesVote, epoch_from}
use Rattle.theory_machine.specs.Vocabulary.{promise_of, site_after}
use Rattle.qc_site.specs.Vocabulary.{prepared_of}
use Rattle.laws_refinement.specs.Items.{items_wanted, own_items}
use Rattle.laws_refinement.specs.Sites.{AreApart, AreLined, AreSingle, IsDecided, IsPlanned, IsPromiseOf}

-- the message of this number, and to whom
abbrev pub IsMessage : List Envelope → ℕ → ℕ → Message → Type 0
IsMessage mail number to message =
    (e : Envelope) × (slice_get mail number ≡ Some e) × (e.to ≡ to) × (e.message ≡ message)

-- the message of this number is the transaction's request to this site
pub record IsRequest (mail : List Envelope) (number site : ℕ) (tx : TxId) (want : Want) : Type 0 where
  pub epoch : ℕ
  pub life : ℕ
  pub is : IsMessage mail number site (messages.Request tx epoch life want)

-- a Read or an Append is granted, a Prepare is voted on
abbrev pub IsGrantable : Want → Type 0
IsGrantable (Read read) = Unit {0}
IsGrantable (Append object view own) = Unit {0}
IsGrantable Prepare = ⊥

-- the machine's site granted what the request wants, with this life, clock and log; to a Read all lines of the object
-- that the site had, and no others
pub record IsGrant (decl : Declaration) (now : State) (site : ℕ) (x : Grant) (tx : TxId) (want : Want)
    : Type 0 where
  pub grant : Granted
  pub given : In grant now.granted
  pub its : grant.tx ≡ tx
  pub by : grant.site ≡ site
  pub place : is_site decl site ≡ true
  pub epoch_is : grant.epoch ≡ now.epoch tx
  pub life_is : grant.life ≡ x.life
  pub some : 0 < x.life
  pub clock_is : grant.clock ≡ x.clock
  pub asks : IsGrantable want
  pub items_are : grant.items ≡ items_wanted want
  pub sorted : IsAscending x.log
  pub lines : (l : Line) → In l x.log → In l (site_after grant.before).volatile
  pub shown : (object inv : ℕ) → want ≡ Read (first_read object inv) → (l : Line) → In l x.log → l.object ≡ object
  pub whole : (object inv : ℕ) → want ≡ Read (first_read object inv)
      → (l : Line) → In l (site_after grant.before).volatile → l.object ≡ object → In l x.log

-- a grant is the answer to a request of the number that it names, in the life that this named, if any
pub record IsGrantTo (decl : Declaration) (now : State) (mail : List Envelope) (site number : ℕ) (x : Grant)
    : Type 0 where
  pub tx : TxId
  pub want : Want
  pub begun : now.status tx ≢ NotBegun
  pub epoch : ℕ
  pub named : ℕ
  pub request : IsMessage mail number site (messages.Request tx epoch named want)
  pub lived : (named ≡ 0) ⊎ (named ≡ x.life)
  pub grant : IsGrant decl now site x tx want

-- so is a vote, to a Prepare
pub record IsVoteTo (votes : List YesVote) (mail : List Envelope) (site number : ℕ) : Type 0 where
  pub tx : TxId
  pub request : IsRequest mail number site tx Prepare
  pub vote : In (record { tx = tx; site = site }) votes

-- what a closed site told is a snapshot of the machine's site, in the epoch before this one; its clock passed its lines
pub record IsSnapshot (decl : Declaration) (now : State) (site epoch clock : ℕ) (log : List Line)
    (prepared : List Prepared) : Type 0 where
  pub snapshot : Snapshot
  pub taken : In snapshot now.snapshots
  pub of : snapshot.site ≡ site
  pub clock_is : snapshot.clock ≡ clock
  pub next : epoch ≡ suc (epoch_from 1 snapshot.before)
  pub lines : (l : Line) → In l (site_after snapshot.before).volatile → In l log
  pub only : (l : Line) → In l log → In l (site_after snapshot.before).volatile
  pub passed : (l : Line) → In l log → l.stamp.clock ≤ clock
  pub sorted : IsAscending log
  pub promised : (t : TxId) → IsPromiseOf (promise_of t (site_after snapshot.before).prepared) (prepared_of prepared t)
  pub apart : AreApart prepared
  pub lined : AreLined prepared log
  pub single : AreSingle (site_after snapshot.before).prepared
  pub begun : (p : Prepared) → In p prepared → now.status p.tx ≢ NotBegun

-- it answers a Close of this number
pub record IsShutTo (decl : Declaration) (now : State) (mail : List Envelope) (site number clock : ℕ) (log : List Line)
    (prepared : List Prepared) : Type 0 where
  pub epoch : ℕ
  pub asked : IsMessage mail number site (messages.Close epoch)
  pub told : IsSnapshot decl now site epoch clock log prepared

-- a final verdict was announced
abbrev pub IsVerdictBacked : State → TxId → Outcome → Type 0
IsVerdictBacked now tx (outcomes.Committed stamp) = In (record { tx = tx; stamp = Some stamp }) now.verdicts
IsVerdictBacked now tx outcomes.Aborted = In (record { tx = tx; stamp = None }) now.verdicts
IsVerdictBacked now tx outcomes.Active = Unit {0}

-- what a client told of a transaction answers an Ask about it
pub record IsAnsweredTo (now : State) (mail : List Envelope) (from number : ℕ) (verdict : Outcome) : Type 0 where
  pub tx : TxId
  pub asked : IsMessage mail number from (messages.Ask tx)
  pub backed : IsVerdictBacked now tx verdict

-- a Read has no mark, so that all lines are told; an Append was sent in the machine, its view in order and its own
-- lines of its object; a Prepare too, and it names the life of all grants of that site that count
abbrev pub IsWanted : State → TxId → ℕ → ℕ → Want → Type 0
IsWanted now tx site life (Read read) = read.mark ≡ no_mark
IsWanted now tx site life (Append object view own) =
    In (record { tx = tx; items = own_items own; view = view }) now.appends
    × IsAscending view × ((o : OwnLine) → In o own → o.object ≡ object)
IsWanted now tx site life Prepare = MayPrepare (now.status tx) × (0 < life)
    × ((g : Granted) → In g now.counted → g.tx ≡ tx → g.site ≡ site → g.life ≡ life)

abbrev pub IsAnswerBacked : Declaration → State → List Envelope → ℕ → ℕ → Answer → Type 0
IsAnswerBacked decl now mail from number (answers.Granted grant) =
    IsGrantTo decl now mail from number grant
IsAnswerBacked decl now mail from number (answers.Clash holder inv event) = Unit {0}
IsAnswerBacked decl now mail from number (answers.Closed epoch) = IsPlanned decl epoch
IsAnswerBacked decl now mail from number (answers.Behind epoch) = Unit {0}
IsAnswerBacked decl now mail from number (answers.Restarted life) = Unit {0}
IsAnswerBacked decl now mail from number answers.Stale = Unit {0}
IsAnswerBacked decl now mail from number answers.Fault = Unit {0}
IsAnswerBacked decl now mail from number (answers.Yes clock) = IsVoteTo now.votes mail from number
IsAnswerBacked decl now mail from number (answers.Shut snapshot) =
    IsShutTo decl now mail from number snapshot.clock snapshot.log snapshot.prepared
IsAnswerBacked decl now mail from number answers.Installed = Unit {0}
IsAnswerBacked decl now mail from number (answers.Answered verdict) = IsAnsweredTo now mail from number verdict

-- what stands behind a message from one actor to another
abbrev pub Backed : Declaration → State → List Envelope → ℕ → ℕ → Message → Type 0
Backed decl now mail from to (messages.Request tx epoch life want) =
    (from ≡ client_actor decl tx.client) × (now.status tx ≢ NotBegun) × (epoch ≡ now.epoch tx)
    × IsWanted now tx to life want
Backed decl now mail from to (messages.Answer number answer) = IsAnswerBacked decl now mail from number answer
Backed decl now mail from to (messages.Decision tx verdict) = IsVerdictBacked now tx verdict
Backed decl now mail from to (messages.Inquiry tx) = (to ≡ client_actor decl tx.client) × (now.status tx ≢ NotBegun)
Backed decl now mail from to (messages.Ask tx) = (to ≡ client_actor decl tx.client) × (now.status tx ≢ NotBegun)
Backed decl now mail from to (messages.Close epoch) = IsPlanned decl epoch
Backed decl now mail from to (messages.Install start) = IsDecided decl now start.epoch start.clock start.lines
