use Rattle.tests_epochs.proofs.WrongDoubts as lemmas
use Rattle.tests_epochs.proofs.wrong.wrong_doubts_are_refused.Goals as goal

pub returns : goal.returns
returns c = record {
  doubt_of_what_is_answered = lemmas.doubt_of_what_is_answered_refused;
  doubt_at_another_site = lemmas.doubt_at_another_site_refused;
  doubt_of_another_promise = lemmas.doubt_of_another_promise_refused;
  doubt_before_it_is_asked = lemmas.doubt_before_it_is_asked_refused;
  decided_in_doubt = lemmas.decided_in_doubt_refused;
}
