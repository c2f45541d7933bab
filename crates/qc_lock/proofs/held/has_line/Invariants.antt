use Rattle.std.proofs.Common.{◌≡◌, drop}
use Rattle.qc_lock.specs.Vocabulary.{has_line}
use Rattle.qc_lock.proofs.held.has_line.Given as goal

abbrev pub invariant-own : goal.invariant-own
invariant-own l = has_line (drop l.other-index l.own) l.line.object l.line.event
    ≡ has_line l.own l.line.object l.line.event
