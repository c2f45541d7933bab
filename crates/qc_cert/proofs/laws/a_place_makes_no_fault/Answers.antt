use Rattle.qc_cert.proofs.Repeats.{a_place_makes_no_fault}
use Rattle.qc_cert.proofs.laws.a_place_makes_no_fault.Goals as goal

pub returns : goal.returns
returns c = a_place_makes_no_fault
