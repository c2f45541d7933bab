-- Short spellings of what histories with epochs hold beside those of other histories: transactions of any life, and
-- promises that are told.
use Rattle.std.specs.Prelude.{ℕ, List}
use Rattle.qc_stamp.specs.declared.stamp.TxId.{TxId}
use Rattle.qc_entry.specs.declared.line.Line.{Line}
use Rattle.qc_entry.specs.declared.line.OwnLine.{OwnLine}
use Rattle.qc_entry.specs.declared.line.ReadLock.{ReadLock}
use Rattle.qc_entry.specs.declared.record.Prepared.{Prepared}
use Rattle.tests_histories.specs.Words.{stamp}

-- a client's transaction, by its life and its number
abbrev pub tx_in : ℕ → ℕ → ℕ → TxId
tx_in client life number = record { client = client; life = life; number = number }

-- the line of an operation of it, which its client's stamp committed
abbrev pub line_in : ℕ → ℕ → ℕ → ℕ → ℕ → ℕ → ℕ → Line
line_in clock client life number op object event =
    record { stamp = stamp clock client; tx = tx_in client life number; op = op; object = object; event = event }

abbrev pub prepared : TxId → ℕ → List ReadLock → List OwnLine → List Line → Prepared
prepared tx epoch locks own lines = record { tx = tx; epoch = epoch; locks = locks; own = own; lines = lines }
