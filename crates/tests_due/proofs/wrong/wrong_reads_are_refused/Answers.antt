use Rattle.tests_due.proofs.WrongReads as lemmas
use Rattle.tests_due.proofs.wrong.wrong_reads_are_refused.Goals as goal

pub returns : goal.returns
returns c = record {
  unasked = lemmas.unasked_refused;
  each_conflicts = lemmas.each_conflicts_refused;
  each_short = lemmas.each_short_refused;
  one_grant = lemmas.one_grant_refused;
  one_site_twice = lemmas.one_site_twice_refused;
  another_invocation = lemmas.another_invocation_refused;
  another_epoch = lemmas.another_epoch_refused;
  earlier_answers = lemmas.earlier_answers_refused;
  late_answer = lemmas.late_answer_refused;
  short_too_early = lemmas.short_too_early_refused;
  short_of_open_requests = lemmas.short_of_open_requests_refused;
  short_of_less = lemmas.short_of_less_refused;
  conflict_with_another = lemmas.conflict_with_another_refused;
  granted_despite_a_clash = lemmas.granted_despite_a_clash_refused;
}
