-- A desk's moves: what it becomes, and what it does.
use Rattle.std.specs.Prelude.{ℕ, List, [], Option, Some, None}
use Rattle.std.specs.List.{find}
use Rattle.qc_stamp.specs.declared.stamp.TxId.{TxId}
use Rattle.qc_stamp.specs.Vocabulary.{same_tx}
use Rattle.qc_entry.specs.declared.record.Commit.{Commit}
use Rattle.qc_msg.specs.declared.turn.Turn.{Turn}
use Rattle.qc_msg.specs.Vocabulary.{first_epoch}
use Rattle.qc_commit.specs.declared.desk.Desk.{Desk}
use Rattle.qc_commit.specs.declared.desk.Known.{Known}
use Rattle.qc_commit.specs.declared.desk.Known.TheVariants.{Committed, Uncommitted}

pub record DeskMove : Type 0 where
  pub desk : Desk
  pub turn : Turn

abbrev pub moved : Desk → Turn → DeskMove
moved desk turn = record { desk = desk; turn = turn }

-- a desk that has done nothing
abbrev pub new_desk : ℕ → Desk
new_desk client =
    record { client = client; clock = record { value = 0 }; epoch = first_epoch; commits = []; voting = None }

-- what the records tell of a transaction

abbrev pub record_of : List Commit → TxId → Option Commit
record_of commits tx = find (λ (c : Commit). same_tx c.tx tx) commits

abbrev pub known_by : Option Commit → Known
known_by None = Uncommitted
known_by (Some c) = Committed c.stamp

abbrev pub known : Desk → TxId → Known
known desk tx = known_by (record_of desk.commits tx)
