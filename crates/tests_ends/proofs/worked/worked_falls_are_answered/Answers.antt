use Rattle.tests_ends.proofs.WorkedEnds as lemmas
use Rattle.tests_ends.proofs.worked.worked_falls_are_answered.Goals as goal

pub returns : goal.returns
returns c = record {
  restarted_site = lemmas.restarted_site_answered;
  unknown_commit = lemmas.unknown_commit_answered;
  lost_decisions = lemmas.lost_decisions_answered;
  faulty_promise = lemmas.faulty_promise_answered;
  second_lives = lemmas.second_lives_answered;
  kept_promise = lemmas.kept_promise_answered;
}
