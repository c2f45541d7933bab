use Rattle.std.proofs.Common.{true, take}
use Rattle.qc_lock.specs.Vocabulary.{Widens, has_line}
use Rattle.qc_lock.proofs.holder_set.add_lines.Given as goal

abbrev pub invariant-own : goal.invariant-own
invariant-own l = Widens l.initial.places l.places l.tx (has_line (take l.line-index l.own)) true
