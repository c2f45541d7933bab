-- What a site owes to a request that it granted, and until when.
use Rattle.std.specs.Prelude.{◌≡◌, ℕ, true, List, ◌∷◌, ◌++◌}
use Rattle.qc_stamp.specs.declared.stamp.Stamp.{Stamp}
use Rattle.qc_stamp.specs.declared.stamp.TxId.{TxId}
use Rattle.qc_list.specs.Vocabulary.{In}
use Rattle.qc_entry.specs.declared.line.OwnLine.{OwnLine}
use Rattle.qc_lock.specs.declared.held.Held.{Held}
use Rattle.qc_msg.specs.declared.message.Envelope.{Envelope}
use Rattle.qc_msg.specs.declared.message.Message.TheVariants.{Decision, Request}
use Rattle.qc_msg.specs.declared.message.Outcome.TheVariants.{Committed}
use Rattle.qc_msg.specs.declared.message.Want.{Want}
use Rattle.qc_msg.specs.declared.message.Want.TheVariants.{Read, Append, Prepare}
use Rattle.qc_msg.specs.declared.step.Input.TheVariants.{Got}
use Rattle.qc_msg.specs.Vocabulary.{Deed, Takes}
use Rattle.qc_promise.specs.Vocabulary.{is_granted}

-- among the deeds of a site stands a request of the transaction that was granted in the turn behind it, and no Decision
-- Committed on the transaction was taken since
pub record IsGrantedSince (ds : List Deed) (tx : TxId) (want : Want) : Type 0 where
  pub request : Envelope
  pub epoch : ℕ
  pub life : ℕ
  pub content : request.message ≡ Request tx epoch life want
  pub before : List Deed
  pub since : List Deed
  pub stands : ds ≡ before ++ Takes (Got request) ∷ since
  pub granted : is_granted request.number since ≡ true
  pub undecided : (e : Envelope) (stamp : Stamp) → In (Takes (Got e)) since
      → e.message ≡ Decision tx (Committed stamp) → ⊥

-- what a transaction holds has what the request wants: the lock of a Read, the own lines of an Append
abbrev pub HasWanted : Held → Want → Type 0
HasWanted held (Read read) = In (record { object = read.object; inv = read.inv }) held.locks
HasWanted held (Append object view own) = (o : OwnLine) → In o own → In o held.own
HasWanted held Prepare = Unit {0}
