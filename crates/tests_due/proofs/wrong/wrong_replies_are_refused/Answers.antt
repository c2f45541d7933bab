use Rattle.tests_due.proofs.WrongReplies as lemmas
use Rattle.tests_due.proofs.wrong.wrong_replies_are_refused.Goals as goal

pub returns : goal.returns
returns c = record {
  absent = lemmas.absent_refused;
  other_response = lemmas.other_response_refused;
  doomed_for_nothing = lemmas.doomed_for_nothing_refused;
  doomed_without_an_append = lemmas.doomed_without_an_append_refused;
  goes_on_though_doomed = lemmas.goes_on_though_doomed_refused;
  too_long_at_one = lemmas.too_long_at_one_refused;
  told_twice = lemmas.told_twice_refused;
  begins_twice = lemmas.begins_twice_refused;
  begins_at_two = lemmas.begins_at_two_refused;
  drops_nothing = lemmas.drops_nothing_refused;
  forgets_its_transaction = lemmas.forgets_its_transaction_refused;
}
