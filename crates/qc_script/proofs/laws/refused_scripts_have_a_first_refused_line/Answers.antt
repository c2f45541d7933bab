use Rattle.qc_script.proofs.FirstRefused.{has_first, only_first}
use Rattle.qc_script.proofs.laws.refused_scripts_have_a_first_refused_line.Goals as goal

pub returns : goal.returns
returns c = record {
  has = has_first;
  only = only_first;
}
