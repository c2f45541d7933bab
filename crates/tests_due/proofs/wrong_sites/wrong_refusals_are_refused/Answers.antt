use Rattle.tests_due.proofs.WrongRefusals as lemmas
use Rattle.tests_due.proofs.wrong_sites.wrong_refusals_are_refused.Goals as goal

pub returns : goal.returns
returns c = record {
  stale = lemmas.stale_refused;
  held_off = lemmas.held_off_refused;
  lets_in = lemmas.lets_in_refused;
  lets_append_in = lemmas.lets_append_in_refused;
  keeps_out = lemmas.keeps_out_refused;
  other_holder = lemmas.other_holder_refused;
  asks_nobody = lemmas.asks_nobody_refused;
  closed = lemmas.closed_refused;
  behind = lemmas.behind_refused;
  restarted = lemmas.restarted_refused;
}
