use Rattle.tests_epochs.proofs.WrongRounds as lemmas
use Rattle.tests_epochs.proofs.wrong.wrong_rounds_are_refused.Goals as goal

pub returns : goal.returns
returns c = record {
  decided_twice = lemmas.decided_twice_refused;
  decided_by_too_few = lemmas.decided_by_too_few_refused;
  decided_by_another_plan = lemmas.decided_by_another_plan_refused;
  a_shut_of_an_earlier_command = lemmas.a_shut_of_an_earlier_command_refused;
  short_before_all_are_asked = lemmas.short_before_all_are_asked_refused;
  short_of_another_weight = lemmas.short_of_another_weight_refused;
  fault_of_nothing = lemmas.fault_of_nothing_refused;
}
