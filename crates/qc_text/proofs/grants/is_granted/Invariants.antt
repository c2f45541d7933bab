use Rattle.std.proofs.Common.{◌≡◌, drop, map}
use Rattle.qc_promise.specs.Vocabulary.{is_granted}
use Rattle.qc_text.specs.Vocabulary.{deed_of}
use Rattle.qc_text.proofs.grants.is_granted.Given as goal

abbrev pub invariant-deeds : goal.invariant-deeds
invariant-deeds l = is_granted l.number (map deed_of (drop l.deed-index l.after)) ≡ is_granted l.number
    (map deed_of l.after)
