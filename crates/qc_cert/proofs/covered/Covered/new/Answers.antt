use Rattle.qc_cert.proofs.Asked.{none_found}
use Rattle.qc_cert.proofs.covered.Covered.new.Goals as goal

pub invariant_of-result : goal.invariant_of-result
invariant_of-result c =
    c.put.ensures c.args.triples.now c.args.triple.now.out
    (none_found c.args.triples.now c.args.triple.now.out 64)
    c.requires
