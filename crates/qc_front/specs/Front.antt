-- A front end's moves: what it becomes, and what it does; how a transaction begins and is given up.
use Rattle.std.specs.Prelude.{ℕ, ◌+◌, max, [], false, length, replicate, Option, Some, None}
use Rattle.qc_stamp.specs.declared.stamp.TxId.{TxId}
use Rattle.qc_stamp.specs.Vocabulary.{first_life}
use Rattle.qc_decl.specs.declared.declaration.Declaration.{Declaration}
use Rattle.qc_view.specs.Vocabulary.{empty_view}
use Rattle.qc_msg.specs.declared.message.Outcome.TheVariants.{Aborted}
use Rattle.qc_msg.specs.declared.reply.Reply.{Reply}
use Rattle.qc_msg.specs.declared.reply.Reply.TheVariants as replies
use Rattle.qc_msg.specs.declared.turn.Turn.{Turn}
use Rattle.qc_msg.specs.Vocabulary.{decisions, ending, first_epoch, telling}
use Rattle.qc_front.specs.declared.doing.Doing.{Doing}
use Rattle.qc_front.specs.declared.doing.Doing.TheVariants.{Idle}
use Rattle.qc_front.specs.declared.front.Front.{Front}
use Rattle.qc_front.specs.declared.transaction.Transaction.{Transaction}

pub record FrontMove : Type 0 where
  pub front : Front
  pub turn : Turn

abbrev pub moved : Front → Turn → FrontMove
moved front turn = record { front = front; turn = turn }

-- a front end that has done nothing
abbrev pub new_front : ℕ → Front
new_front client =
    record {
      client = client;
      life = first_life;
      count = 0;
      clock = record { value = 0 };
      epoch = first_epoch;
      transaction = None;
      doing = Idle;
    }

-- the begun transaction, and what it waits for, are these
abbrev pub turned : Front → Option Transaction → Doing → Front
turned front transaction doing = record front { transaction = transaction; doing = doing }

-- begin: the next number in this life, and the known epoch

abbrev pub next_tx : Front → TxId
next_tx front = record { client = front.client; life = front.life; number = front.count + 1 }

abbrev pub fresh : Declaration → TxId → ℕ → Transaction
fresh decl tx epoch =
    record {
      begun = record { tx = tx; epoch = epoch; ops = []; lives = []; asked = []; doomed = false };
      views = replicate (length decl.objects) empty_view;
      own = [];
    }

abbrev pub begins : Declaration → Front → Option Transaction → FrontMove
begins decl front (Some t) = moved front (telling (replies.Already t.begun.tx))
begins decl front None =
    moved
    (record front {
      count = front.count + 1;
      transaction = Some (fresh decl (next_tx front) front.epoch);
    })
    (telling (replies.Began (next_tx front)))

-- the transaction is given up: that goes to each site that it asked, ascending

abbrev pub gives_up : Front → Transaction → Reply → FrontMove
gives_up front t reply = moved (turned front None Idle) (ending (decisions t.begun Aborted) reply)

abbrev pub aborts : Front → Option Transaction → FrontMove
aborts front None = moved front (telling replies.NoTransaction)
aborts front (Some t) = gives_up front t replies.Dropped

-- the transaction has ended elsewhere, with this clock and this known epoch
abbrev pub ended : Front → ℕ → ℕ → Front
ended front clock epoch =
    record front {
      clock = record { value = max front.clock.value clock };
      epoch = max front.epoch epoch;
      transaction = None;
      doing = Idle;
    }
