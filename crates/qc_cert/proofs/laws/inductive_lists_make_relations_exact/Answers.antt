use Rattle.qc_cert.proofs.Walk.{inductive_lists_make_relations_exact}
use Rattle.qc_cert.proofs.laws.inductive_lists_make_relations_exact.Goals as goal

pub returns : goal.returns
returns c = inductive_lists_make_relations_exact
