use Rattle.std.proofs.Common.{drop, map}
use Rattle.qc_text.specs.Vocabulary.{deed_of}
use Rattle.qc_text.proofs.Cuts.{AreNoCuts}
use Rattle.qc_text.proofs.holdings.holding_of.Given as goal

abbrev pub invariant-deeds : goal.invariant-deeds
invariant-deeds l = AreNoCuts (map deed_of (drop l.place l.deeds))
