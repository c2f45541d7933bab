use Rattle.std.proofs.Common.{◌≡◌, List, drop, map}
use Rattle.qc_msg.specs.declared.record.Record.{Record}
use Rattle.qc_promise.specs.Vocabulary.{lines_from}
use Rattle.qc_text.specs.Vocabulary.{AreLast, deed_of, lines_in, present}
use Rattle.qc_text.proofs.lines.log_of.Given as goal

abbrev pub invariant-deeds : goal.invariant-deeds
invariant-deeds l =
    (before : List Record) × AreLast l.prepares before
    × (lines_from l.known before (map deed_of (drop l.place l.current.since.now)) ≡ lines_in (present l.current))
