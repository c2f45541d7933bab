use Rattle.tests_due.proofs.WrongRecords as lemmas
use Rattle.tests_due.proofs.wrong.wrong_records_are_refused.Goals as goal

pub returns : goal.returns
returns c = record {
  record_before_the_votes = lemmas.record_before_the_votes_refused;
  record_missing = lemmas.record_missing_refused;
  operation_left_out = lemmas.operation_left_out_refused;
  recorded_twice = lemmas.recorded_twice_refused;
  low_stamp = lemmas.low_stamp_refused;
  aborted_though_recorded = lemmas.aborted_though_recorded_refused;
  unknown_without_a_fall = lemmas.unknown_without_a_fall_refused;
  committed_though_it_fell = lemmas.committed_though_it_fell_refused;
}
