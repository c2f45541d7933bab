use Rattle.std.proofs.Common.{◌≡◌, drop, fold}
use Rattle.qc_site.specs.Vocabulary.{lines_of, with_stamped}
use Rattle.qc_site.proofs.decision.lines_of.Given as goal

abbrev pub invariant-own : goal.invariant-own
invariant-own l = fold (with_stamped l.stamp l.tx) l.lines (drop l.line-index l.own) ≡ lines_of l.stamp l.tx l.own
