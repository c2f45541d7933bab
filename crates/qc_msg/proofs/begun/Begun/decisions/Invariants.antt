use Rattle.std.proofs.Common.{◌≡◌, ◌++◌, drop}
use Rattle.qc_msg.specs.Vocabulary.{decisions}
use Rattle.qc_msg.proofs.begun.Begun.decisions.Given as goal

-- the messages so far, with those to the sites that are left, are all of them
abbrev pub invariant-loop-site : goal.invariant-loop-site
invariant-loop-site l =
    l.sends ++ decisions (record l.self { asked = drop l.site-index l.self.asked }) l.outcome
    ≡ decisions l.self l.outcome
