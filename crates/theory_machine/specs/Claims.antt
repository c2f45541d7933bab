-- What is claimed of every run.
use Rattle.std.specs.Prelude.{◌≡◌, ℕ, ◌<◌, List, Option, Some, None}
use Rattle.qc_stamp.specs.declared.stamp.Stamp.{Stamp}
use Rattle.qc_stamp.specs.declared.stamp.TxId.{TxId}
use Rattle.qc_entry.specs.declared.line.Line.{Line}
use Rattle.qc_entry.specs.declared.record.Commit.{Commit as CommitRecord}
use Rattle.qc_list.specs.Vocabulary.{In}
use Rattle.theory_machine.specs.Site.{site_after}
use Rattle.theory_machine.specs.State.{AppendRequest, Decision, Granted, Snapshot, State}
use Rattle.theory_machine.specs.Guards.{Shows}

-- a log of a site, now, when it granted, or in a snapshot; the view of an Append; or the log of a decision
pub data IsLogOf (now : State) (log : List Line) : Type 0 where
  OfSite : (site : ℕ) → log ≡ (site_after (now.deeds site)).volatile → IsLogOf now log
  OfGrant : (g : Granted) → In g now.granted → log ≡ (site_after g.before).volatile → IsLogOf now log
  OfSnapshot : (s : Snapshot) → In s now.snapshots → log ≡ (site_after s.before).volatile → IsLogOf now log
  OfAppend : (s : AppendRequest) → In s now.appends → log ≡ s.view → IsLogOf now log
  OfDecision : (d : Decision) → In d now.decided → log ≡ d.log → IsLogOf now log

-- a record of this transaction and stamp, before another
pub record HasEarlier (records : List CommitRecord) (tx : TxId) (stamp : Stamp) (clock : ℕ) : Type 0 where
  pub commit : CommitRecord
  pub listed : In commit records
  pub named : commit.tx ≡ tx
  pub stamped : commit.stamp ≡ stamp
  pub before : commit.stamp.clock < clock

-- what a client had learned as its transaction got this record: lines of grants that it counted since it rose, and
-- its own records
pub record FollowsSeen (now : State) (c : CommitRecord) : Type 0 where
  pub seen_by : (g : Granted) (l : Line) → In g (now.seen_by c.tx.client) → Shows g l
      → HasEarlier now.records l.tx l.stamp c.stamp.clock
  pub own : (d : CommitRecord) → In d now.records → d.tx.client ≡ c.tx.client → d.stamp.clock < c.stamp.clock

-- a record with this stamp, or none
abbrev pub IsVerdictOf : List CommitRecord → TxId → Option Stamp → Type 0
IsVerdictOf records tx (Some stamp) = (c : CommitRecord) × In c records × (c.tx ≡ tx) × (c.stamp ≡ stamp)
IsVerdictOf records tx None = (c : CommitRecord) → In c records → c.tx ≡ tx → ⊥
