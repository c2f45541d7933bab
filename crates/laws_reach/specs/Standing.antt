-- Which commit records stand after a history with falls: those in the journals of clients.
use Rattle.std.specs.Prelude.{◌≡◌, ℕ, true, List}
use Rattle.qc_decl.specs.Vocabulary.{is_client}
use Rattle.qc_decl.specs.declared.declaration.Declaration.{Declaration}
use Rattle.qc_entry.specs.declared.record.Commit.{Commit as CommitRecord}
use Rattle.qc_entry.specs.declared.record.Prepared.{Prepared}
use Rattle.qc_list.specs.Vocabulary.{In}
use Rattle.qc_msg.specs.declared.message.Envelope.{Envelope}
use Rattle.qc_msg.specs.declared.message.Message.TheVariants.{Request}
use Rattle.qc_msg.specs.declared.message.Want.TheVariants as wants
use Rattle.qc_msg.specs.declared.record.Record.{Record}
use Rattle.qc_msg.specs.declared.record.Record.TheVariants.{Commit, Prepare}
use Rattle.qc_msg.specs.Vocabulary.{Entry, mail, own}
use Rattle.qc_promise.specs.Vocabulary.{journal_of}

-- the record is among those of a client, whatever its journal is
pub record IsOfClient (decl : Declaration) (records : ℕ → List Record) (commit : CommitRecord) : Type 0 where
  pub actor : ℕ
  pub client : is_client decl actor ≡ true
  pub listed : In (Commit commit) (records actor)

-- the records that an actor's journal has after a history
abbrev pub records_of : List Entry → ℕ → List Record
records_of h a = (journal_of (own a h)).records

-- just the commit records that stand, in any order, and any of them more than once
pub record AreStanding (decl : Declaration) (h : List Entry) (commits : List CommitRecord) : Type 0 where
  pub each : (c : CommitRecord) → In c commits → IsOfClient decl (records_of h) c
  pub all : (c : CommitRecord) → IsOfClient decl (records_of h) c → In c commits

-- the journal of the actor has the record of a promise of the transaction that the request of this number asked a
-- promise of
pub record IsPromiseRecorded (h : List Entry) (a to : ℕ) : Type 0 where
  pub promise : Prepared
  pub stands : In (Prepare promise) (records_of h a)
  pub request : Envelope
  pub sent : In request (mail h)
  pub numbered : request.number ≡ to
  pub epoch : ℕ
  pub life : ℕ
  pub named : request.message ≡ Request promise.tx epoch life wants.Prepare
