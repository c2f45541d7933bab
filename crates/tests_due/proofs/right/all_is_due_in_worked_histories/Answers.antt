use Rattle.tests_due.proofs.WorkedHistories as lemmas
use Rattle.tests_due.proofs.right.all_is_due_in_worked_histories.Goals as goal

pub returns : goal.returns
returns c = record {
  read_after_write = lemmas.read_after_write_due;
  read_before_commit = lemmas.read_before_commit_due;
  blind_writes = lemmas.blind_writes_due;
  cut_off = lemmas.cut_off_due;
  late_copy = lemmas.late_copy_due;
  every_message_twice = lemmas.every_message_twice_due;
  doomed_write = lemmas.doomed_write_due;
}
