use Rattle.tests_histories.proofs.WorkedHistories as lemmas
use Rattle.tests_histories.proofs.worked.worked_histories_are_performed.Goals as goal

pub returns : goal.returns
returns c = record {
  read_after_write = lemmas.read_after_write_performed;
  read_before_commit = lemmas.read_before_commit_performed;
  blind_writes = lemmas.blind_writes_performed;
  cut_off = lemmas.cut_off_performed;
  late_copy = lemmas.late_copy_performed;
  every_message_twice = lemmas.every_message_twice_performed;
  doomed_write = lemmas.doomed_write_performed;
}
