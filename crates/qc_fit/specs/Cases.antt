-- Records over the built-in declaration `@three`. Sites are the actors 0 to 2, clients 3 to 5, the administrator 6, the
-- controller 7. There is one epoch, and one object, with 3 invocations, 3 responses and 4 events.
use Rattle.std.specs.Prelude.{ℕ, List, [], ◌∷◌, Option, Some}
use Rattle.qc_entry.specs.declared.line.Line.{Line}
use Rattle.qc_entry.specs.declared.line.Op.{Op}
use Rattle.qc_entry.specs.declared.line.OwnLine.{OwnLine}
use Rattle.qc_entry.specs.declared.line.ReadLock.{ReadLock}
use Rattle.qc_msg.specs.declared.record.Record.{Record}
use Rattle.qc_msg.specs.declared.record.Record.TheVariants as records
use Rattle.qc_stamp.specs.declared.stamp.TxId.{TxId}

-- the first transaction of a client
abbrev pub tx : ℕ → TxId
tx client = record { client = client; life = 1; number = 1 }

abbrev pub lock : ℕ → ℕ → ReadLock
lock object inv = record { object = object; inv = inv }

abbrev pub own : ℕ → ℕ → OwnLine
own object event = record { op = 1; object = object; event = event }

abbrev pub line : ℕ → ℕ → ℕ → ℕ → Line
line clock client object event = record {
  stamp = record { clock = clock; client = client };
  tx = tx client;
  op = 1;
  object = object;
  event = event;
}

abbrev pub op : ℕ → ℕ → Option ℕ → Op
op object inv resp = record { object = object; inv = inv; resp = resp }

abbrev pub prepare : ℕ → ℕ → List ReadLock → List OwnLine → List Line → Record
prepare client epoch locks owns lines =
    records.Prepare (record { tx = tx client; epoch = epoch; locks = locks; own = owns; lines = lines })

abbrev pub commit : ℕ → ℕ → List Op → Record
commit client clock ops =
    records.Commit (record { stamp = record { clock = clock; client = client }; tx = tx client; ops = ops })

-- what a site and the client write in a first run: W1 is answered by ok, and R by 1

abbrev pub prepared : Record
prepared = prepare 0 1 (lock 0 0 ∷ []) (own 0 3 ∷ []) []

abbrev pub done : ℕ → ℕ → Record
done client clock = records.Done (tx client) clock

abbrev pub committed : Record
committed = commit 0 1 (op 0 2 (Some 2) ∷ op 0 0 (Some 1) ∷ [])
