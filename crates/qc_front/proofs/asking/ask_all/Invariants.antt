use Rattle.std.proofs.Common.{◌≡◌, ◌++◌, length}
use Rattle.qc_plan.specs.Vocabulary.{asking_in_turn}
use Rattle.qc_front.proofs.asking.ask_all.Given as goal

-- the sites so far, with those that are asked from here on, are all of them, and lead to the same round
abbrev pub invariant-asking : goal.invariant-asking
invariant-asking l = record {
  sites : l.sites ++ (asking_in_turn (length l.round.rest) l.round).0 ≡
      (asking_in_turn (length l.initial.round.rest) l.initial.round).0;
  round : (asking_in_turn (length l.round.rest) l.round).1 ≡
      (asking_in_turn (length l.initial.round.rest) l.initial.round).1;
}

abbrev pub decreases-asking : goal.decreases-asking
decreases-asking l = length l.round.rest
