use Rattle.qc_script.proofs.Inboxes.{one_fate}
use Rattle.tests_runs.proofs.laws.messages_have_one_fate.Goals as goal

pub returns : goal.returns
returns c = λ script from to h from_within to_within. one_fate script to from h to_within from_within
