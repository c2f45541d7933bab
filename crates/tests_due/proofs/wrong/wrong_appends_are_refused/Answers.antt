use Rattle.tests_due.proofs.WrongAppends as lemmas
use Rattle.tests_due.proofs.wrong.wrong_appends_are_refused.Goals as goal

pub returns : goal.returns
returns c = record {
  new_line_left_out = lemmas.new_line_left_out_refused;
  earlier_line_left_out = lemmas.earlier_line_left_out_refused;
  view_left_out = lemmas.view_left_out_refused;
  one_append_granted = lemmas.one_append_granted_refused;
}
