use Rattle.std.proofs.Common.{take}
use Rattle.qc_lock.specs.Vocabulary.{IsAppendPlaced, IsSmallest}
use Rattle.qc_lock.proofs.clash.append_clash.Given as goal

abbrev pub invariant-own : goal.invariant-own
invariant-own l = IsSmallest (IsAppendPlaced l.relation l.locks l.tx (take l.line-index l.own)) l.best
