use Rattle.tests_falls.proofs.Sound.{run_is_whole}
use Rattle.tests_falls.proofs.laws.schedules_with_falls_make_whole_runs.Goals as goal

pub returns : goal.returns
returns c = run_is_whole
