-- What a client was told that its transactions ended with, beside the commit records of its journal.
use Rattle.std.specs.Prelude.{[], MatchOption, ◌≡◌, ◌⊎◌, List, ◌∷◌}
use Rattle.qc_entry.specs.declared.record.Commit.{Commit as CommitRecord}
use Rattle.qc_list.specs.Vocabulary.{In}
use Rattle.qc_msg.specs.Vocabulary.{Deed, Falls, Rises, Sends, Takes, Tells, Writes, commit_of}
use Rattle.qc_msg.specs.declared.record.Record.{Record}
use Rattle.qc_msg.specs.declared.record.Record.TheVariants.{Commit}
use Rattle.qc_msg.specs.declared.reply.Reply.{Reply}
use Rattle.qc_msg.specs.declared.reply.Reply.TheVariants.{Committed, Unknown}
use Rattle.qc_stamp.specs.declared.stamp.Stamp.{Stamp}
use Rattle.qc_stamp.specs.declared.stamp.TxId.{TxId}

-- among the records is one of the transaction, with this stamp
pub record HasRecord (rs : List Record) (tx : TxId) (stamp : Stamp) : Type 0 where
  pub commit : CommitRecord
  pub listed : In (Commit commit) rs
  pub named : commit.tx ≡ tx
  pub stamped : commit.stamp ≡ stamp

-- its client was told Committed with the record's stamp, or that nobody knows
abbrev pub IsToldOf : CommitRecord → List Reply → Type 0
IsToldOf c ends = (In (Committed c.stamp) ends) ⊎ (In Unknown ends)

-- a reply comes next in the post
abbrev pub TellsNext : List Deed → Type 0
TellsNext [] = ⊥
TellsNext (Takes given ∷ after) = ⊥
TellsNext (Writes written ∷ after) = ⊥
TellsNext (Sends number to message ∷ after) = TellsNext after
TellsNext (Tells reply ∷ after) = Unit {0}
TellsNext (Falls cause pending ∷ after) = ⊥
TellsNext (Rises kept ∷ after) = ⊥

abbrev pub IsRecordTold : Record → List Deed → Type 0
IsRecordTold written after = MatchOption (commit_of written) (Unit {0}) (λ (x : CommitRecord). TellsNext after)

abbrev pub IsDeedTold : Deed → List Deed → Type 0
IsDeedTold (Takes given) after = Unit {0}
IsDeedTold (Writes written) after = IsRecordTold written after
IsDeedTold (Sends number to message) after = Unit {0}
IsDeedTold (Tells reply) after = Unit {0}
IsDeedTold (Falls cause pending) after = Unit {0}
IsDeedTold (Rises kept) after = Unit {0}

-- each commit record that is written is told in its post
abbrev pub AreCommitsTold : List Deed → Type 0
AreCommitsTold [] = Unit {0}
AreCommitsTold (d ∷ after) = IsDeedTold d after × AreCommitsTold after
