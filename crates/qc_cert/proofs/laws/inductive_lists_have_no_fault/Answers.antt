use Rattle.qc_cert.proofs.Faultless.{inductive_lists_have_no_fault}
use Rattle.qc_cert.proofs.laws.inductive_lists_have_no_fault.Goals as goal

pub returns : goal.returns
returns c = inductive_lists_have_no_fault
