-- The order of lines, and lists of lines in that order; the line of an own one.
use Rattle.std.specs.Prelude.{ℕ, List, map}
use Rattle.std.specs.Ordering.{nat_cmp, on, then_cmp}
use Rattle.std.specs.declared.cmp.Ordering.{Ordering}
use Rattle.qc_list.specs.Vocabulary.{Ascends}
use Rattle.qc_entry.specs.declared.line.Line.{Line}
use Rattle.qc_entry.specs.declared.line.OwnLine.{OwnLine}
use Rattle.qc_stamp.specs.declared.stamp.Stamp.{Stamp}
use Rattle.qc_stamp.specs.declared.stamp.TxId.{TxId}
use Rattle.qc_stamp.specs.Vocabulary.{stamp_cmp, tx_cmp}

-- lines by stamp, transaction, operation, object and event
abbrev pub line_cmp : Line → Line → Ordering
line_cmp =
    then_cmp (on (λ l. l.stamp) stamp_cmp)
    (then_cmp (on (λ l. l.tx) tx_cmp)
    (then_cmp (on (λ l. l.op) nat_cmp)
    (then_cmp (on (λ l. l.object) nat_cmp) (on (λ l. l.event) nat_cmp))))

-- the lines stand in order, each once
abbrev pub IsAscending : List Line → Type 0
IsAscending lines = Ascends line_cmp lines

-- an own line of a transaction that committed with a stamp
abbrev pub stamped : Stamp → TxId → OwnLine → Line
stamped stamp tx o = record { stamp = stamp; tx = tx; op = o.op; object = o.object; event = o.event }

-- the clocks in lines
abbrev pub clocks_of : List Line → List ℕ
clocks_of lines = map (λ (l : Line). l.stamp.clock) lines
