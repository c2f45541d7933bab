-- What messages and records carry, by its fields.
use Rattle.std.specs.Prelude.{ℕ, List, [], length}
use Rattle.qc_entry.specs.declared.line.Line.{Line}
use Rattle.qc_entry.specs.declared.mark.Mark.{Mark}
use Rattle.qc_entry.specs.declared.record.Prepared.{Prepared}
use Rattle.qc_entry.specs.Vocabulary.{no_mark}
use Rattle.qc_msg.specs.declared.payload.EpochStart.{EpochStart}
use Rattle.qc_msg.specs.declared.payload.Grant.{Grant}
use Rattle.qc_msg.specs.declared.payload.ReadRequest.{ReadRequest}
use Rattle.qc_msg.specs.declared.payload.Snapshot.{Snapshot}

abbrev pub read_of : ℕ → ℕ → Mark → ReadRequest
read_of object inv mark = record { object = object; inv = inv; mark = mark }

-- one by a client that was told nothing
abbrev pub first_read : ℕ → ℕ → ReadRequest
first_read object inv = read_of object inv no_mark

abbrev pub grant_with : ℕ → ℕ → List Line → ℕ → Grant
grant_with life clock log count = record { life = life; clock = clock; log = log; count = count }

-- one that tells all lines, to a Read by such a client; and one to an Append
abbrev pub whole_grant : ℕ → ℕ → List Line → Grant
whole_grant life clock log = grant_with life clock log (length log)

abbrev pub append_grant : ℕ → ℕ → Grant
append_grant life clock = grant_with life clock [] 0

abbrev pub snapshot_with : ℕ → List Line → List Prepared → Snapshot
snapshot_with clock log prepared = record { clock = clock; log = log; prepared = prepared }

abbrev pub start_with : ℕ → ℕ → List Line → EpochStart
start_with epoch clock lines = record { epoch = epoch; clock = clock; lines = lines }
