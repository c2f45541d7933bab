use Rattle.std.proofs.Common.{take}
use Rattle.qc_lock.specs.Vocabulary.{Narrows, has_line}
use Rattle.qc_lock.proofs.holder_set.drop_lines.Given as goal

abbrev pub invariant-own : goal.invariant-own
invariant-own l = Narrows l.initial.places l.places l.tx (has_line (take l.line-index l.own)) (has_line l.kept)
