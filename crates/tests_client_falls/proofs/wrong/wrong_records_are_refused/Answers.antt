use Rattle.tests_client_falls.proofs.WrongRecords as lemmas
use Rattle.tests_client_falls.proofs.wrong.wrong_records_are_refused.Goals as goal

pub returns : goal.returns
returns c = record {
  is_told_unknown_with_the_record_written = lemmas.is_told_unknown_with_the_record_written_refused;
  is_told_unknown_with_nothing_pending = lemmas.is_told_unknown_with_nothing_pending_refused;
  is_told_unknown_with_another_stamp_pending = lemmas.is_told_unknown_with_another_stamp_pending_refused;
  is_told_unknown_with_another_list_of_operations_pending =
      lemmas.is_told_unknown_with_another_list_of_operations_pending_refused;
  is_told_unknown_with_a_life_record_pending = lemmas.is_told_unknown_with_a_life_record_pending_refused;
  is_told_unknown_and_goes_on = lemmas.is_told_unknown_and_goes_on_refused;
  is_told_unknown_and_falls_by_the_script = lemmas.is_told_unknown_and_falls_by_the_script_refused;
  is_told_committed_and_falls_as_it_writes = lemmas.is_told_committed_and_falls_as_it_writes_refused;
  is_told_aborted_and_falls_as_it_writes = lemmas.is_told_aborted_and_falls_as_it_writes_refused;
  writes_its_record_and_falls_as_it_writes_another_of_the_transaction =
      lemmas.writes_its_record_and_falls_as_it_writes_another_of_the_transaction_refused;
  writes_a_record_of_a_transaction_whose_pending_one_rose =
      lemmas.writes_a_record_of_a_transaction_whose_pending_one_rose_refused;
  writes_a_record_of_a_transaction_of_its_former_life =
      lemmas.writes_a_record_of_a_transaction_of_its_former_life_refused;
  sends_as_it_rises = lemmas.sends_as_it_rises_refused;
  rises_and_writes_no_life = lemmas.rises_and_writes_no_life_refused;
  writes_life_twice = lemmas.writes_life_twice_refused;
  writes_a_promise = lemmas.writes_a_promise_refused;
}
