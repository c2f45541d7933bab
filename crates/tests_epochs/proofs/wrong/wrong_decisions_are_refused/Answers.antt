use Rattle.tests_epochs.proofs.WrongDecisions as lemmas
use Rattle.tests_epochs.proofs.wrong.wrong_decisions_are_refused.Goals as goal

pub returns : goal.returns
returns c = record {
  a_clock_that_leaves_out_stamps = lemmas.a_clock_that_leaves_out_stamps_refused;
  committed_lines_left_out = lemmas.committed_lines_left_out_refused;
  aborted_lines_merged = lemmas.aborted_lines_merged_refused;
  a_line_that_nobody_told = lemmas.a_line_that_nobody_told_refused;
  one_entry_of_a_transaction = lemmas.one_entry_of_a_transaction_refused;
  another_log_installed = lemmas.another_log_installed_refused;
}
