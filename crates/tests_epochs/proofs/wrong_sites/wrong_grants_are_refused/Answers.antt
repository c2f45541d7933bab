use Rattle.tests_epochs.proofs.WrongGrants as lemmas
use Rattle.tests_epochs.proofs.wrong_sites.wrong_grants_are_refused.Goals as goal

pub returns : goal.returns
returns c = record {
  granted_in_a_closed_epoch = lemmas.granted_in_a_closed_epoch_refused;
  granted_without_installed_lines = lemmas.granted_without_installed_lines_refused;
  granted_below_installed_clock = lemmas.granted_below_installed_clock_refused;
  granted_in_the_first_life = lemmas.granted_in_the_first_life_refused;
  refused_for_what_was_dropped = lemmas.refused_for_what_was_dropped_refused;
}
