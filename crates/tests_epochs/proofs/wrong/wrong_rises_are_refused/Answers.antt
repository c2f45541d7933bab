use Rattle.tests_epochs.proofs.WrongRises as lemmas
use Rattle.tests_epochs.proofs.wrong.wrong_rises_are_refused.Goals as goal

pub returns : goal.returns
returns c = record {
  a_lost_decision_installed = lemmas.a_lost_decision_installed_refused;
  a_shut_of_before_his_fall = lemmas.a_shut_of_before_his_fall_refused;
  closed_before_his_fall = lemmas.closed_before_his_fall_refused;
  installs_as_he_rises = lemmas.installs_as_he_rises_refused;
  no_life_written = lemmas.no_life_written_refused;
  the_first_epoch_again = lemmas.the_first_epoch_again_refused;
  refused_while_down = lemmas.refused_while_down_refused;
}
