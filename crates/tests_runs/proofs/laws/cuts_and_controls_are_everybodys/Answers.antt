use Rattle.qc_script.proofs.Inboxes.{inboxes_have_in_common}
use Rattle.tests_runs.proofs.laws.cuts_and_controls_are_everybodys.Goals as goal

pub returns : goal.returns
returns c = record {
  cuts = λ script a b h a_within b_within. (inboxes_have_in_common script a b h a_within b_within).cuts;
  controls = λ script a b h a_within b_within. (inboxes_have_in_common script a b h a_within b_within).controls;
}
