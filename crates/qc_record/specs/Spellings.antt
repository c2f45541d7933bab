-- Bytes that were written by hand from the format, field after field, with the records that they spell.
use Rattle.std.specs.Prelude.{◌≡◌, ℕ, List, [], ◌∷◌, Some, None, Ok, Err}
use Rattle.qc_entry.specs.declared.line.Line.{Line}
use Rattle.qc_entry.specs.declared.record.Commit.{Commit}
use Rattle.qc_entry.specs.declared.record.Prepared.{Prepared}
use Rattle.qc_msg.specs.declared.record.Record.{Record}
use Rattle.qc_record.specs.declared.fault.RecordFault.TheVariants.{Torn}
use Rattle.qc_record.specs.Records.{record_at}
use Rattle.qc_stamp.specs.declared.stamp.TxId.{TxId}

-- bytes are read as a record
abbrev pub IsRead : List ℕ → Record → Type 0
IsRead bytes rec = record_at bytes ≡ Ok rec

-- bytes are none, from this place on
abbrev pub TornAt : ℕ → List ℕ → Type 0
TornAt offset bytes = record_at bytes ≡ Err (Torn offset)

-- Bytes. A number of several bytes is below 256 in them, so its last byte is the number.

-- four bytes: a life, a number in it, or a count of lines
abbrev pub four : ℕ → List ℕ → List ℕ
four n rest = 0 ∷ 0 ∷ 0 ∷ n ∷ rest

abbrev pub clock_bytes : ℕ → List ℕ → List ℕ
clock_bytes clock rest = 0 ∷ 0 ∷ 0 ∷ 0 ∷ four clock rest

abbrev pub tx_bytes : ℕ → ℕ → ℕ → List ℕ → List ℕ
tx_bytes client life number rest = client ∷ four life (four number rest)

abbrev pub line_bytes : ℕ → ℕ → ℕ → ℕ → ℕ → ℕ → ℕ → List ℕ → List ℕ
line_bytes clock client life number op object event rest =
    clock_bytes clock (tx_bytes client life number (op ∷ object ∷ event ∷ rest))

-- a Prepare of the transaction 0.1.1 in epoch 1, up to the count of its locks at byte 11
abbrev pub prepare_bytes : List ℕ → List ℕ
prepare_bytes rest = 2 ∷ tx_bytes 0 1 1 (1 ∷ rest)

abbrev pub done_bytes : ℕ → ℕ → ℕ → List ℕ → List ℕ
done_bytes client life number rest = 3 ∷ tx_bytes client life number rest

-- an Install of epoch 2 with clock 9, up to its first line at byte 14; the second is at byte 34
abbrev pub install_bytes : ℕ → List ℕ → List ℕ
install_bytes count rest = 5 ∷ 2 ∷ clock_bytes 9 (four count rest)

-- the same up to its second line, where there are two
abbrev pub behind_line : List ℕ → List ℕ
behind_line rest = install_bytes 2 (line_bytes 9 2 3 7 4 5 6 rest)

-- a Commit of the transaction 0.1.1 with clock 1, up to its first operation at byte 19
abbrev pub commit_bytes : ℕ → List ℕ → List ℕ
commit_bytes count rest = 6 ∷ tx_bytes 0 1 1 (clock_bytes 1 (count ∷ rest))

-- Records.

abbrev pub tx : ℕ → ℕ → ℕ → TxId
tx client life number = record { client = client; life = life; number = number }

abbrev pub line : ℕ → ℕ → ℕ → ℕ → ℕ → ℕ → ℕ → Line
line clock client life number op object event = record {
  stamp = record { clock = clock; client = client };
  tx = tx client life number;
  op = op;
  object = object;
  event = event;
}

-- what a site promises in a first run, and what the client records
abbrev pub promise : Prepared
promise = record {
  tx = tx 0 1 1;
  epoch = 1;
  locks = record { object = 0; inv = 0 } ∷ [];
  own = record { op = 1; object = 0; event = 3 } ∷ [];
  lines = [];
}

abbrev pub commit : Commit
commit = record {
  stamp = record { clock = 1; client = 0 };
  tx = tx 0 1 1;
  ops = record { object = 0; inv = 2; resp = Some 2 } ∷ record { object = 0; inv = 0; resp = Some 1 } ∷ [];
}

-- one of an operation without a response
abbrev pub absent : Commit
absent = record {
  stamp = record { clock = 1; client = 0 };
  tx = tx 0 1 1;
  ops = record { object = 0; inv = 2; resp = None } ∷ [];
}
