use Rattle.std.proofs.Common.{◌≡◌, [], ◌++◌, drop, map}
use Rattle.qc_msg.specs.Vocabulary.{deeds}
use Rattle.qc_text.specs.Vocabulary.{deed_of, envelope_in}
use Rattle.qc_text.proofs.deeds.deeds_of.Given as goal

abbrev pub invariant-entries : goal.invariant-entries
invariant-entries l =
    map deed_of l.deeds.items ++ deeds l.number (map envelope_in l.sent.items) (drop l.entry-index l.entries)
    ≡ deeds l.number [] l.entries
