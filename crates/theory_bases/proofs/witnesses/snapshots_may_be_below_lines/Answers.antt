use Rattle.std.proofs.Common.{refl}
use Rattle.theory_bases.proofs.Disciplined.{low_is_disciplined, low_is_low}
use Rattle.theory_bases.proofs.witnesses.snapshots_may_be_below_lines.Goals as goal

pub returns-clause-disciplined : goal.returns-clause-disciplined
returns-clause-disciplined r = low_is_disciplined

pub returns-clause-low : goal.returns-clause-low
returns-clause-low r = low_is_low

pub returns-clause-decided : goal.returns-clause-decided
returns-clause-decided r = refl
