-- A history that is no run: a reader committed after a writer, and was told its operation from a view without the
-- writer's line. Over three sites and three clients, with one register.
use Rattle.std.specs.Prelude.{ℕ, false, List, [], ◌∷◌, ◌++◌, Some}
use Rattle.qc_entry.specs.declared.line.Line.{Line}
use Rattle.qc_entry.specs.declared.line.Op.{Op}
use Rattle.qc_entry.specs.declared.record.Commit.{Commit}
use Rattle.qc_msg.specs.declared.record.Record.TheVariants as records
use Rattle.qc_msg.specs.declared.reply.Reply.TheVariants as replies
use Rattle.qc_msg.specs.declared.step.Command.TheVariants as commands
use Rattle.qc_msg.specs.declared.step.Step.TheVariants as steps
use Rattle.qc_msg.specs.Vocabulary.{Entry, by, marked}
use Rattle.qc_promise.specs.Vocabulary.{Current}
use Rattle.qc_stamp.specs.declared.stamp.Stamp.{Stamp}
use Rattle.qc_stamp.specs.declared.stamp.TxId.{TxId}

-- the clients are the actors 3 and 4: the first writes, the second reads
abbrev pub name : ℕ → TxId
name client = record { client = client; life = 1; number = 1 }

abbrev pub stamp_at : ℕ → ℕ → Stamp
stamp_at clock client = record { clock = clock; client = client }

-- invocation W0 with the response ok, and R with the response 0
abbrev pub write : Op
write = record { object = 0; inv = 1; resp = Some 2 }

abbrev pub read : Op
read = record { object = 0; inv = 0; resp = Some 0 }

abbrev pub writes : Commit
writes = record { stamp = stamp_at 1 0; tx = name 0; ops = write ∷ [] }

abbrev pub reads : Commit
reads = record { stamp = stamp_at 2 1; tx = name 1; ops = read ∷ [] }

-- the writer's line: W0:ok has the number 2
abbrev pub line : Line
line = record { stamp = stamp_at 1 0; tx = name 0; op = 1; object = 0; event = 2 }

-- the reader begins, and is told a response, without a grant
abbrev pub told : List Entry
told =
    by 4 (steps.Told (replies.Began (name 1))
    ∷ steps.Called (commands.Do 0 0)
    ∷ steps.Told (replies.Response 0)
    ∷ [])

abbrev pub early : List Entry
early = marked 3 (steps.Wrote (records.Commit writes)) ∷ told

abbrev pub missed : List Entry
missed = early ++ marked 4 (steps.Wrote (records.Commit reads)) ∷ []

-- what its client's steps show of its transaction; and so if a grant had shown the line
abbrev pub reader : Current
reader = record {
  tx = name 1;
  epoch = 1;
  ops = read ∷ [];
  own = record { op = 1; object = 0; event = 0 } ∷ [];
  read_grants = [];
  lives = [];
  doomed = false;
}

abbrev pub informed : Current
informed = record reader { read_grants = record { object = 0; log = line ∷ [] } ∷ [] }
