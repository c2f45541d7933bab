use Rattle.tests_epochs.proofs.WrongRisenSites as lemmas
use Rattle.tests_epochs.proofs.wrong_sites.wrong_risen_sites_are_refused.Goals as goal

pub returns : goal.returns
returns c = record {
  a_closed_site_grants = lemmas.a_closed_site_grants_refused;
  a_told_promise_forgotten = lemmas.a_told_promise_forgotten_refused;
  a_promise_unasked = lemmas.a_promise_unasked_refused;
  closed_again = lemmas.closed_again_refused;
  an_epoch_forgotten = lemmas.an_epoch_forgotten_refused;
  installed_lines_forgotten = lemmas.installed_lines_forgotten_refused;
}
