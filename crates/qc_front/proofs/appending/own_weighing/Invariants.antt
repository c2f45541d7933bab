use Rattle.std.proofs.Common.{◌≡◌, ◌++◌, drop, filter}
use Rattle.qc_front.specs.Vocabulary.{weighs}
use Rattle.qc_front.proofs.appending.own_weighing.Given as goal

-- the lines so far, with those that are left, are all of them
abbrev pub invariant-loop-line : goal.invariant-loop-line
invariant-loop-line l =
    l.lines ++ filter (weighs l.decl l.epoch l.object) (drop l.line-index l.line-items) ≡ filter
    (weighs l.decl l.epoch l.object) l.own
