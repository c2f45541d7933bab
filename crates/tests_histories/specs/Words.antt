-- Short spellings of what histories hold. Each transaction is of its client's first life.
use Rattle.std.specs.Prelude.{ℕ, List, [], Option}
use Rattle.qc_stamp.specs.declared.stamp.Stamp.{Stamp}
use Rattle.qc_stamp.specs.declared.stamp.TxId.{TxId}
use Rattle.qc_table.specs.Vocabulary.{relation_of}
use Rattle.qc_table.specs.declared.kind.Kind.{Kind}
use Rattle.qc_table.specs.declared.relation.Pair.{Pair}
use Rattle.qc_table.specs.declared.row.Row.{Row}
use Rattle.qc_plan.specs.declared.plan.Plan.{Plan}
use Rattle.qc_entry.specs.declared.line.Line.{Line}
use Rattle.qc_entry.specs.declared.line.Op.{Op}
use Rattle.qc_entry.specs.declared.line.OwnLine.{OwnLine}
use Rattle.qc_entry.specs.declared.line.ReadLock.{ReadLock}
use Rattle.qc_decl.specs.declared.declaration.Declaration.{Declaration}
use Rattle.qc_msg.specs.declared.record.Record.{Record}
use Rattle.qc_msg.specs.declared.record.Record.TheVariants as records

-- a client's transaction, by its number
abbrev pub tx : ℕ → ℕ → TxId
tx client number = record { client = client; life = 1; number = number }

abbrev pub stamp : ℕ → ℕ → Stamp
stamp clock client = record { clock = clock; client = client }

-- the line of an operation of the transaction of this number, which its client's stamp committed
abbrev pub line : ℕ → ℕ → ℕ → ℕ → ℕ → ℕ → Line
line clock client number op object event =
    record { stamp = stamp clock client; tx = tx client number; op = op; object = object; event = event }

abbrev pub own_line : ℕ → ℕ → ℕ → OwnLine
own_line op object event = record { op = op; object = object; event = event }

abbrev pub read_lock : ℕ → ℕ → ReadLock
read_lock object inv = record { object = object; inv = inv }

abbrev pub operation : ℕ → ℕ → Option ℕ → Op
operation object inv resp = record { object = object; inv = inv; resp = resp }

-- records

abbrev pub prepare : TxId → ℕ → List ReadLock → List OwnLine → List Line → Record
prepare tx epoch locks own lines =
    records.Prepare (record { tx = tx; epoch = epoch; locks = locks; own = own; lines = lines })

abbrev pub commit : Stamp → TxId → List Op → Record
commit stamp tx ops = records.Commit (record { stamp = stamp; tx = tx; ops = ops })

-- declarations, without names

abbrev pub pair : ℕ → ℕ → Pair
pair inv event = record { inv = inv; event = event }

abbrev pub kind : ℕ → ℕ → ℕ → ℕ → List Row → List Pair → Kind
kind states invs resps start rows pairs =
    record {
      table = record { states = states; invs = invs; resps = resps; start = start; rows = rows };
      relation = relation_of pairs;
    }

abbrev pub plan : List ℕ → List (List ℕ) → List (List ℕ) → Plan
plan weights initial last = record { weights = weights; initial = initial; last = last }

abbrev pub declaration : ℕ → ℕ → List Kind → List ℕ → List Plan → Declaration
declaration sites clients kinds objects plans =
    record {
      sites = sites;
      clients = clients;
      kinds = kinds;
      objects = objects;
      plans = plans;
      kind_names = [];
      object_names = [];
    }
