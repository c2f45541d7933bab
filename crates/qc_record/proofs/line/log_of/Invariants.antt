use Rattle.std.proofs.Common.{◌≡◌, take}
use Rattle.qc_record.proofs.line.log_of.Given as goal

abbrev pub invariant-loop-line : goal.invariant-loop-line
invariant-loop-line l = l.log ≡ take l.line-index l.lines
