use Rattle.std.proofs.Common.{◌≡◌, drop, fold}
use Rattle.qc_entry.specs.Vocabulary.{IsAscending}
use Rattle.qc_recover.specs.Vocabulary.{log_of, with_line}
use Rattle.qc_recover.proofs.lines.LineSet.into_log.Given as goal

abbrev pub invariant-lines : goal.invariant-lines
invariant-lines l = record {
  rest : fold with_line l.log (drop l.line-index l.line-items) ≡ log_of l.line-items;
  ascending : IsAscending l.log;
}
