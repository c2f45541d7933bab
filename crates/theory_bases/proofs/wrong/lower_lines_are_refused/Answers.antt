use Rattle.theory_bases.proofs.Refused.{equal_clock, less_clock, not_behind}
use Rattle.theory_bases.proofs.wrong.lower_lines_are_refused.Goals as goal

pub returns-clause-equal : goal.returns-clause-equal
returns-clause-equal r above = equal_clock above

pub returns-clause-less : goal.returns-clause-less
returns-clause-less r above = less_clock above

pub returns-clause-behind : goal.returns-clause-behind
returns-clause-behind r e = not_behind e
