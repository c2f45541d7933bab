use Rattle.qc_cert.proofs.MarkedTriples.{distinct_triples_cover_alike}
use Rattle.qc_cert.proofs.laws.distinct_triples_cover_alike.Goals as goal

pub returns : goal.returns
returns c = distinct_triples_cover_alike
