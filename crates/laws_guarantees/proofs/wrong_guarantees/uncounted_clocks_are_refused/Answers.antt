use Rattle.std.proofs.Common.{refl}
use Rattle.laws_guarantees.proofs.wrong_guarantees.uncounted_clocks_are_refused.Goals as goal

pub returns-clause-kept : goal.returns-clause-kept
returns-clause-kept c = refl

pub returns-clause-grant : goal.returns-clause-grant
returns-clause-grant c h = h

pub returns-clause-promise : goal.returns-clause-promise
returns-clause-promise c h = h

pub returns-clause-refusal : goal.returns-clause-refusal
returns-clause-refusal c h = h
