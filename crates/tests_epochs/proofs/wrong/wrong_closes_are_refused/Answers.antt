use Rattle.tests_epochs.proofs.WrongCloses as lemmas
use Rattle.tests_epochs.proofs.wrong.wrong_closes_are_refused.Goals as goal

pub returns : goal.returns
returns c = record {
  a_close_of_another_epoch = lemmas.a_close_of_another_epoch_refused;
  a_site_asked_twice = lemmas.a_site_asked_twice_refused;
  another_site_asked = lemmas.another_site_asked_refused;
}
