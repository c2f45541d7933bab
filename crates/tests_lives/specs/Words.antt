-- Short spellings of what a site's deeds hold.
use Rattle.std.specs.Prelude.{ℕ, List}
use Rattle.qc_stamp.specs.declared.stamp.Stamp.{Stamp}
use Rattle.qc_stamp.specs.declared.stamp.TxId.{TxId}
use Rattle.qc_entry.specs.declared.line.Line.{Line}
use Rattle.qc_entry.specs.declared.line.OwnLine.{OwnLine}
use Rattle.qc_entry.specs.declared.line.ReadLock.{ReadLock}
use Rattle.qc_msg.specs.declared.message.Message.{Message}
use Rattle.qc_msg.specs.declared.record.Record.{Record}
use Rattle.qc_msg.specs.declared.record.Record.TheVariants as records
use Rattle.qc_msg.specs.declared.step.Input.TheVariants as inputs
use Rattle.qc_msg.specs.Vocabulary.{Deed, Takes}

-- a client's transaction, by the client's life and its number in it
abbrev pub tx : ℕ → ℕ → ℕ → TxId
tx client life number = record { client = client; life = life; number = number }

abbrev pub stamp : ℕ → ℕ → Stamp
stamp clock client = record { clock = clock; client = client }

-- the line of an operation of such a transaction, which its client's stamp committed
abbrev pub line : ℕ → ℕ → ℕ → ℕ → ℕ → ℕ → ℕ → Line
line clock client life number op object event =
    record {
      stamp = stamp clock client;
      tx = tx client life number;
      op = op;
      object = object;
      event = event;
    }

abbrev pub own_line : ℕ → ℕ → ℕ → OwnLine
own_line op object event = record { op = op; object = object; event = event }

abbrev pub read_lock : ℕ → ℕ → ReadLock
read_lock object inv = record { object = object; inv = inv }

abbrev pub prepare : TxId → ℕ → List ReadLock → List OwnLine → List Line → Record
prepare tx epoch locks own lines =
    records.Prepare (record { tx = tx; epoch = epoch; locks = locks; own = own; lines = lines })

-- a message is taken: its number, its sender, its receiver
abbrev pub got : ℕ → ℕ → ℕ → Message → Deed
got number from to message =
    Takes (inputs.Got (record { number = number; from = from; to = to; message = message }))
