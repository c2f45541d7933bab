use Rattle.tests_due.proofs.WrongAsks as lemmas
use Rattle.tests_due.proofs.wrong.wrong_asks_are_refused.Goals as goal

pub returns : goal.returns
returns c = record {
  conflict_of_a_site_too_many = lemmas.conflict_of_a_site_too_many_refused;
  closed_by_a_site_too_many = lemmas.closed_by_a_site_too_many_refused;
  out_of_order = lemmas.out_of_order_refused;
  waits_for_a_site_too_many = lemmas.waits_for_a_site_too_many_refused;
  begin_untold = lemmas.begin_untold_refused;
  refusal_untold = lemmas.refusal_untold_refused;
  response_without_a_plan = lemmas.response_without_a_plan_refused;
  absent_without_a_table = lemmas.absent_without_a_table_refused;
}
