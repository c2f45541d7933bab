use Rattle.std.proofs.Common.{◌<◌, inl, inr, refl, arith}
use Rattle.laws_guarantees.specs.Vocabulary.{line}
use Rattle.laws_guarantees.proofs.wrong_order.late_stamps_are_refused.Goals as goal

none_less : line.stamp.clock < line.stamp.clock → ⊥
none_less less = omega arith

pub returns-clause-same : goal.returns-clause-same
returns-clause-same c (inl seen) = none_less seen.before
returns-clause-same c (inr later) = none_less later

pub returns-clause-unseen : goal.returns-clause-unseen
returns-clause-unseen c (inl seen) = none_less seen.before
returns-clause-unseen c (inr later) = none_less later

pub returns-clause-own : goal.returns-clause-own
returns-clause-own c d = d.apart refl
