use Rattle.tests_epochs.proofs.WrongInstalls as lemmas
use Rattle.tests_epochs.proofs.wrong.wrong_installs_are_refused.Goals as goal

pub returns : goal.returns
returns c = record {
  a_site_left_out = lemmas.a_site_left_out_refused;
  earlier_installs_count = lemmas.earlier_installs_count_refused;
  an_answer_of_what_was_lost = lemmas.an_answer_of_what_was_lost_refused;
}
