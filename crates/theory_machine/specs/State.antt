-- The state of the protocol: what the clients know, what each site did, and all messages that were ever sent. A
-- message is never taken away, so any may come late, again or not at all. It knows no scripts, rounds, numbers of
-- messages or code.
use Rattle.std.specs.Prelude.{ℕ, List, Option}
use Rattle.qc_stamp.specs.declared.stamp.Stamp.{Stamp}
use Rattle.qc_stamp.specs.declared.stamp.TxId.{TxId}
use Rattle.qc_entry.specs.declared.line.Line.{Line}
use Rattle.qc_entry.specs.declared.record.Commit.{Commit as CommitRecord}
use Rattle.theory_onecopy.specs.Vocabulary.{Executed}
use Rattle.theory_machine.specs.Site.{Item, Deed}

-- where a transaction stands; the last two are final (presumed abort, Mohan and Lindsay 1983: without a commit record
-- it aborted)
pub data Status : Type 0 where
  NotBegun : Status
  Active : Status  -- it executes operations
  Voting : Status  -- its client has sent Prepare, and executes no more
  Pending : (commit : CommitRecord) → Status  -- its client fell, and this commit record may stand or not
  Committed : (commit : CommitRecord) → Status  -- this commit record stands
  Aborted : Status  -- it has no commit record, and never will

-- an Append that a client sent: the own lines that it asks to add, and the log that it brings
pub record AppendRequest : Type 0 where
  pub tx : TxId
  pub items : List Item
  pub view : List Line

-- a Granted that a site sent: what it had done before, the epoch, life and clock that it told, and what it granted
pub record Granted : Type 0 where
  pub tx : TxId
  pub site : ℕ
  pub epoch : ℕ
  pub life : ℕ
  pub clock : ℕ
  pub before : List Deed
  pub items : List Item
  pub view : List Line

-- a Yes that a site sent
pub record YesVote : Type 0 where
  pub tx : TxId
  pub site : ℕ

-- a Decision that a client sent: the stamp at which the transaction committed, or none where it aborted
pub record Verdict : Type 0 where
  pub tx : TxId
  pub stamp : Option Stamp

-- a Shut that a site sent: what it had done before, and the clock that it told
pub record Snapshot : Type 0 where
  pub site : ℕ
  pub clock : ℕ
  pub before : List Deed

-- a Decide record: an epoch, the log and the clock that it starts with, and the snapshots that these were made from
pub record Decision : Type 0 where
  pub epoch : ℕ
  pub clock : ℕ
  pub log : List Line
  pub snapshots : List Snapshot

-- all that the guards and the promises speak of
pub record State : Type 0 where
  -- the clients: of each transaction
  pub epoch : TxId → ℕ
  pub status : TxId → Status
  pub executed : TxId → List Executed  -- its operations, oldest first
  pub chosen : TxId → Option Executed  -- the one whose event is being appended
  -- the clients: of each client
  pub clock : ℕ → ℕ
  pub seen_by : ℕ → List Granted  -- the grants that it counted since it rose
  -- the commit records that stand
  pub records : List CommitRecord
  -- the sites: of each site
  pub deeds : ℕ → List Deed  -- what it did, oldest first
  pub life : ℕ → ℕ
  -- the messages, and which grants were counted
  pub appends : List AppendRequest
  pub granted : List Granted
  pub counted : List Granted
  pub votes : List YesVote
  pub verdicts : List Verdict
  pub snapshots : List Snapshot
  -- the administrator: the Decide records that stand
  pub decided : List Decision
