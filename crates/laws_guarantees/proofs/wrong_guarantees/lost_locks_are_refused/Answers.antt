use Rattle.std.proofs.Common.{inl, refl}
use Rattle.laws_guarantees.specs.WrongGuarantees.{line}
use Rattle.laws_guarantees.proofs.wrong_guarantees.lost_locks_are_refused.Goals as goal

pub returns-clause-kept : goal.returns-clause-kept
returns-clause-kept c = inl refl

pub returns-clause-ended : goal.returns-clause-ended
returns-clause-ended c h = h

pub returns-clause-refused : goal.returns-clause-refused
returns-clause-refused c h = h

pub returns-clause-own : goal.returns-clause-own
returns-clause-own c h = h line (inl refl)
