use Rattle.qc_cert.proofs.Faultless.{no_fault_is_inductive}
use Rattle.qc_cert.proofs.laws.no_fault_is_inductive.Goals as goal

pub returns : goal.returns
returns c = no_fault_is_inductive
