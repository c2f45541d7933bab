use Rattle.tests_epochs.proofs.WorkedHistories as lemmas
use Rattle.tests_epochs.proofs.right.all_is_due_in_worked_histories.Goals as goal

pub returns : goal.returns
returns c = record {
  moved_once = lemmas.moved_once_due;
  stamps_pass_reads = lemmas.stamps_pass_reads_due;
  ask_lost = lemmas.ask_lost_due;
  installs_late = lemmas.installs_late_due;
  too_few_close = lemmas.too_few_close_due;
  several_promises = lemmas.several_promises_due;
  doubt_of_second = lemmas.doubt_of_second_due;
  each_entry_merged = lemmas.each_entry_merged_due;
  one_unheard = lemmas.one_unheard_due;
  doubtful_commit = lemmas.doubtful_commit_due;
  decide_stops = lemmas.decide_stops_due;
  closed_rises = lemmas.closed_rises_due;
  shut_rises = lemmas.shut_rises_due;
  told_promise_stays = lemmas.told_promise_stays_due;
  installed_again = lemmas.installed_again_due;
  last_decision = lemmas.last_decision_due;
  administrator_down = lemmas.administrator_down_due;
  asked_while_active = lemmas.asked_while_active_due;
}
