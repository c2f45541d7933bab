use Rattle.qc_cert.proofs.Repeats.{the_first_fault_is_of_a_first}
use Rattle.qc_cert.proofs.laws.the_first_fault_is_of_a_first.Goals as goal

pub returns : goal.returns
returns c = the_first_fault_is_of_a_first
