-- A client's moves: those of its front end, and those of its desk, after which the front end's transaction has ended.
use Rattle.std.specs.Prelude.{ℕ, Bool, true, false, Option, Some, None, is_some, if◌then◌else◌}
use Rattle.qc_stamp.specs.declared.stamp.TxId.{TxId}
use Rattle.qc_stamp.specs.Vocabulary.{same_tx}
use Rattle.qc_commit.specs.declared.desk.Known.{Known}
use Rattle.qc_commit.specs.declared.desk.Known.TheVariants as knowns
use Rattle.qc_commit.specs.Vocabulary.{DeskMove, known, new_desk}
use Rattle.qc_front.specs.declared.transaction.Transaction.{Transaction}
use Rattle.qc_front.specs.Vocabulary.{FrontMove, ended, new_front}
use Rattle.qc_msg.specs.declared.message.Outcome.{Outcome}
use Rattle.qc_msg.specs.declared.message.Outcome.TheVariants.{Committed, Aborted, Active}
use Rattle.qc_msg.specs.declared.turn.Turn.{Turn}
use Rattle.qc_client.specs.declared.client.Client.{Client}

pub record ClientMove : Type 0 where
  pub client : Client
  pub turn : Turn

abbrev pub moved : Client → Turn → ClientMove
moved client turn = record { client = client; turn = turn }

-- a client that has done nothing
abbrev pub new_client : ℕ → Client
new_client number = record { front = new_front number; desk = new_desk number }

-- the front end moves, and the desk stands
abbrev pub by_front : Client → FrontMove → ClientMove
by_front c move = moved (record c { front = move.front }) move.turn

-- the desk moves; where its turn tells the reply, the transaction has ended
abbrev pub by_desk : Client → DeskMove → ClientMove
by_desk c move =
    moved
    (record {
      front =
          if is_some move.turn.told
          then ended c.front move.desk.clock.value move.desk.epoch
          else c.front;
      desk = move.desk;
    })
    move.turn

-- how a transaction stands: it committed where a record says so, it is active where it is the begun one, and it
-- aborted otherwise (presumed abort)

abbrev pub is_begun : TxId → Option Transaction → Bool
is_begun tx None = false
is_begun tx (Some t) = same_tx t.begun.tx tx

abbrev pub outcome_by : Known → Bool → Outcome
outcome_by (knowns.Committed stamp) begun = Committed stamp
outcome_by knowns.Uncommitted true = Active
outcome_by knowns.Uncommitted false = Aborted

abbrev pub outcome_of : Client → TxId → Outcome
outcome_of c tx = outcome_by (known c.desk tx) (is_begun tx c.front.transaction)
