use Rattle.tests_client_falls.proofs.WrongVerdicts as lemmas
use Rattle.tests_client_falls.proofs.wrong.wrong_verdicts_are_refused.Goals as goal

pub returns : goal.returns
returns c = record {
  answers_aborted_of_a_record_that_rose = lemmas.answers_aborted_of_a_record_that_rose_refused;
  answers_committed_of_a_record_that_did_not_rise = lemmas.answers_committed_of_a_record_that_did_not_rise_refused;
  answers_aborted_of_the_pending_record_that_rose = lemmas.answers_aborted_of_the_pending_record_that_rose_refused;
  answers_active_of_what_it_had_begun_before_its_fall =
      lemmas.answers_active_of_what_it_had_begun_before_its_fall_refused;
}
