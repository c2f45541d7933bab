use Rattle.tests_runs.proofs.TakersOfWorkedHistoriesAreRight as lemmas
use Rattle.tests_runs.proofs.worked.takers_of_worked_histories_are_right.Goals as goal

pub returns : goal.returns
returns c = record {
  read_after_write = lemmas.read_after_write_computed;
  read_before_commit = lemmas.read_before_commit_computed;
  blind_writes = lemmas.blind_writes_computed;
  cut_off = lemmas.cut_off_computed;
  late_copy = lemmas.late_copy_computed;
  every_message_twice = lemmas.every_message_twice_computed;
  doomed_write = lemmas.doomed_write_computed;
}
