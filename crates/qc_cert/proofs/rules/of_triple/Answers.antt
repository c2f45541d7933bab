use Rattle.std.proofs.Common.{sym}
use Rattle.qc_cert.proofs.Repeats.{a_place_makes_no_fault}
use Rattle.qc_cert.proofs.rules.of_triple.Goals as goal

pub returns-then-is_faultless : goal.returns-then-is_faultless
returns-then-is_faultless c =
    sym (a_place_makes_no_fault c.args.kind.now c.args.triples.now 0 c.args.place c.args.triple.now
    (c.is_faultless.ensures c.if-is_faultless.true))
