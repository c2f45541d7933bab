use Rattle.std.proofs.Common.{◌≡◌, ◌++◌, map, take}
use Rattle.qc_accept.proofs.names.Index.tell.Given as goal

abbrev pub invariant-loop-text : goal.invariant-loop-text
invariant-loop-text l = l.told ≡ l.initial.told ++ map (λ t. t.now) (take l.text-index l.text-items)
