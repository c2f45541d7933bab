use Rattle.tests_due.proofs.OtherRows as lemmas
use Rattle.tests_due.proofs.right.replies_of_other_rows_are_due.Goals as goal

pub returns : goal.returns
returns c = record {
  closed_reading = lemmas.closed_reading_due;
  closed_appending = lemmas.closed_appending_due;
  closed_vote = lemmas.closed_vote_due;
  restarted = lemmas.restarted_due;
  fault = lemmas.fault_due;
  forgotten = lemmas.forgotten_due;
  left_behind = lemmas.left_behind_due;
  unknown = lemmas.unknown_due;
  too_long = lemmas.too_long_due;
}
