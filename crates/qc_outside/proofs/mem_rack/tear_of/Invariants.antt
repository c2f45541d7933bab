use Rattle.std.proofs.Common.{◌≡◌, drop}
use Rattle.qc_outside.specs.Vocabulary.{tear_of}
use Rattle.qc_outside.proofs.mem_rack.tear_of.Given as goal

-- none of those so far is the actor's
abbrev pub invariant-tears : goal.invariant-tears
invariant-tears l = tear_of (drop l.listed-index l.tears) l.others l.actor ≡ tear_of l.tears l.others l.actor
