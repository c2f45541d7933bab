use Rattle.tests_epochs.proofs.WrongFalls as lemmas
use Rattle.tests_epochs.proofs.wrong.wrong_falls_are_refused.Goals as goal

pub returns : goal.returns
returns c = record {
  fault_though_decided = lemmas.fault_though_decided_refused;
  fault_before_a_fall = lemmas.fault_before_a_fall_refused;
  fault_and_no_fall = lemmas.fault_and_no_fall_refused;
  another_record_pending = lemmas.another_record_pending_refused;
  decided_again_though_it_rose = lemmas.decided_again_though_it_rose_refused;
  decided_again_after_a_rise = lemmas.decided_again_after_a_rise_refused;
}
