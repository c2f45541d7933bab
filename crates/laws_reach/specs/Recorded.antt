-- A commit record of a transaction, of a stamp, among records.
use Rattle.std.specs.Prelude.{◌≡◌, List}
use Rattle.qc_entry.specs.declared.record.Commit.{Commit as CommitRecord}
use Rattle.qc_list.specs.Vocabulary.{In}
use Rattle.qc_msg.specs.declared.record.Record.{Record}
use Rattle.qc_msg.specs.declared.record.Record.TheVariants.{Commit}
use Rattle.qc_stamp.specs.declared.stamp.Stamp.{Stamp}
use Rattle.qc_stamp.specs.declared.stamp.TxId.{TxId}

pub record IsRecorded (tx : TxId) (stamp : Stamp) (records : List Record) : Type 0 where
  pub commit : CommitRecord
  pub listed : In (Commit commit) records
  pub named : commit.tx ≡ tx
  pub stamped : commit.stamp ≡ stamp
