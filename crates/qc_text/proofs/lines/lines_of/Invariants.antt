use Rattle.std.proofs.Common.{◌≡◌, ◌∷◌, [], List, drop}
use Rattle.std.specs.Prelude.{fold}
use Rattle.qc_entry.specs.Vocabulary.{union}
use Rattle.qc_entry.specs.declared.line.Line.{Line}
use Rattle.qc_entry.specs.declared.line.OwnLine.{OwnLine}
use Rattle.qc_promise.specs.Vocabulary.{lines_of, stamped}
use Rattle.qc_text.proofs.lines.lines_of.Given as goal

abbrev pub invariant-own : goal.invariant-own
invariant-own l =
    fold (λ (lines : List Line) (o : OwnLine). union lines (stamped l.stamp l.tx o ∷ [])) l.lines
    (drop l.line-index l.own) ≡ lines_of l.stamp l.tx l.own
