-- What each act of a disciplined run keeps of the epochs of lines. The parts speak of no more of the state than they
-- need, so that an act that leaves this part as it is keeps them.
use Rattle.std.specs.Prelude.{◌≡◌, ◌≢◌, ℕ, suc, ◌<◌, ◌≤◌, List}
use Rattle.qc_stamp.specs.declared.stamp.TxId.{TxId}
use Rattle.qc_entry.specs.declared.line.Line.{Line}
use Rattle.qc_entry.specs.declared.line.OwnLine.{OwnLine}
use Rattle.qc_decl.specs.declared.declaration.Declaration.{Declaration}
use Rattle.qc_list.specs.Vocabulary.{In}
use Rattle.theory_machine.specs.Vocabulary.{AppendRequest, Decision, Deed, Granted, NotBegun, Own, Promise, Site}
use Rattle.theory_machine.specs.Vocabulary.{Snapshot, State, Status, epoch_from, items_of, site_after}
use Rattle.theory_bases.specs.Belongs.{BelongsTo, IsOwnWrittenIn}

-- a site in epoch k: its lines belong to k, and what is held or promised there was written in it
pub record IsSiteOfEpoch (decl : Declaration) (status : TxId → Status) (epoch : TxId → ℕ) (decided : List Decision)
    (k : ℕ) (s : Site) : Type 0 where
  pub lines : (l : Line) → In l s.volatile → BelongsTo decl status epoch decided k l
  pub held : (tx : TxId) (o : OwnLine) → In (Own o) (items_of tx s.held) → IsOwnWrittenIn decl status epoch k tx o
  pub promised : (p : Promise) (o : OwnLine) → In p s.promises → In (Own o) p.items
      → IsOwnWrittenIn decl status epoch k p.tx o

-- an Append is of a begun transaction, and the lines of its view belong to the transaction's epoch
pub record IsAppendOfEpoch (decl : Declaration) (status : TxId → Status) (epoch : TxId → ℕ)
    (decided : List Decision) (s : AppendRequest) : Type 0 where
  pub begun : status s.tx ≢ NotBegun
  pub lines : (l : Line) → In l s.view → BelongsTo decl status epoch decided (epoch s.tx) l

-- a snapshot shows a site of its epoch
pub record IsSnapshotOfEpoch (decl : Declaration) (status : TxId → Status) (epoch : TxId → ℕ)
    (decided : List Decision) (s : Snapshot) : Type 0 where
  pub site : IsSiteOfEpoch decl status epoch decided (epoch_from 1 s.before) (site_after s.before)
  pub from_first : 1 ≤ epoch_from 1 s.before

-- a line of a decided log was written in an earlier epoch, and belongs to the epoch before; it came by some snapshot
pub record IsLineOfDecision (decl : Declaration) (status : TxId → Status) (epoch : TxId → ℕ)
    (decided : List Decision) (d : Decision) (l : Line) : Type 0 where
  pub begun : status l.tx ≢ NotBegun
  pub after_first : 1 < d.epoch
  pub earlier : epoch l.tx < d.epoch
  pub belonged : (k : ℕ) → d.epoch ≡ suc k → BelongsTo decl status epoch decided k l
  pub source : (s : Snapshot) × In s d.snapshots

-- all of these, and that each epoch has one decision
pub record EpochLaws (decl : Declaration) (status : TxId → Status) (epoch : TxId → ℕ) (deeds : ℕ → List Deed)
    (appends : List AppendRequest) (granted : List Granted) (snapshots : List Snapshot)
    (decided : List Decision) : Type 0 where
  pub sites : (n : ℕ) → IsSiteOfEpoch decl status epoch decided (epoch_from 1 (deeds n)) (site_after (deeds n))
  pub grants : (g : Granted) (l : Line) → In g granted → In l (site_after g.before).volatile
      → BelongsTo decl status epoch decided g.epoch l
  pub requests : (s : AppendRequest) → In s appends → IsAppendOfEpoch decl status epoch decided s
  pub closings : (s : Snapshot) → In s snapshots → IsSnapshotOfEpoch decl status epoch decided s
  pub decisions : (d : Decision) (l : Line) → In d decided → In l d.log
      → IsLineOfDecision decl status epoch decided d l
  pub one : (d e : Decision) → In d decided → In e decided → d.epoch ≡ e.epoch → d ≡ e

abbrev pub EpochLawsOf : Declaration → State → Type 0
EpochLawsOf decl now =
    EpochLaws decl now.status now.epoch now.deeds now.appends now.granted now.snapshots now.decided
