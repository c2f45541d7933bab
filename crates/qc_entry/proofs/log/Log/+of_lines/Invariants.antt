use Rattle.std.proofs.Common.{length}
use Rattle.qc_entry.proofs.log.Log.+of_lines.Given as goal

abbrev pub decreases-of_lines : goal.decreases-of_lines
decreases-of_lines l = length l.lines.now
