use Rattle.std.proofs.Common.{drop, map}
use Rattle.qc_promise.proofs.Lifetimes.{AreNoRises}
use Rattle.qc_text.specs.Vocabulary.{deed_of}
use Rattle.qc_text.proofs.lifetimes.lifetime_of.Given as goal

abbrev pub invariant-deeds : goal.invariant-deeds
invariant-deeds l = AreNoRises (map deed_of (drop l.place l.deeds))
