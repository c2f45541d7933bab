-- Short spellings of what histories with falls hold beside those of other histories: transactions of any life.
use Rattle.std.specs.Prelude.{ℕ}
use Rattle.qc_stamp.specs.declared.stamp.TxId.{TxId}
use Rattle.qc_entry.specs.declared.line.Line.{Line}
use Rattle.tests_histories.specs.Words.{stamp}

-- a client's transaction, by its life and its number
abbrev pub tx_in : ℕ → ℕ → ℕ → TxId
tx_in client life number = record { client = client; life = life; number = number }

-- the line of an operation of it, which its client's stamp committed
abbrev pub line_in : ℕ → ℕ → ℕ → ℕ → ℕ → ℕ → ℕ → Line
line_in clock client life number op object event =
    record { stamp = stamp clock client; tx = tx_in client life number; op = op; object = object; event = event }
