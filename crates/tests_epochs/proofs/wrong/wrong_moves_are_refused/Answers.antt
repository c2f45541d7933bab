use Rattle.tests_epochs.proofs.WrongMoves as lemmas
use Rattle.tests_epochs.proofs.wrong.wrong_moves_are_refused.Goals as goal

pub returns : goal.returns
returns c = record {
  another_site_closed = lemmas.another_site_closed_refused;
  a_closed_site_left_out = lemmas.a_closed_site_left_out_refused;
  an_install_unheard_of = lemmas.an_install_unheard_of_refused;
  moved_before_the_answers = lemmas.moved_before_the_answers_refused;
  moved_without_closing = lemmas.moved_without_closing_refused;
  the_next_epoch_refused = lemmas.the_next_epoch_refused_refused;
}
