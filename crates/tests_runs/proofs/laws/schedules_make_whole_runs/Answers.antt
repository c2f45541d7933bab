use Rattle.tests_runs.proofs.Sound.{run_by_is_whole}
use Rattle.tests_runs.proofs.laws.schedules_make_whole_runs.Goals as goal

pub returns : goal.returns
returns c = run_by_is_whole
