-- How long a record's body is, for whoever has to know it before the record is written.
use Rattle.std.specs.Prelude.{ℕ, ◌+◌, ◌*◌, List, length}
use Rattle.qc_entry.specs.declared.line.Line.{Line}
use Rattle.qc_entry.specs.declared.record.Prepared.{Prepared}

-- the bytes of a Prepare: kind, transaction, epoch, and three lists behind their counts
abbrev pub prepare_length : Prepared → ℕ
prepare_length p = 18 + 2 * length p.locks + 3 * length p.own + 20 * length p.lines

-- the bytes of an Install, and of a Decide: kind, epoch, clock, and the lines behind their count
abbrev pub epoch_length : List Line → ℕ
epoch_length lines = 14 + 20 * length lines
