use Rattle.tests_falls.proofs.WorkedRuns as lemmas
use Rattle.tests_falls.proofs.worked.worked_falls_are_runs.Goals as goal

pub returns : goal.returns
returns c = record {
  restarted_site = lemmas.restarted_site_computed;
  unknown_commit = lemmas.unknown_commit_computed;
  lost_decisions = lemmas.lost_decisions_computed;
  faulty_promise = lemmas.faulty_promise_computed;
  second_lives = lemmas.second_lives_computed;
  kept_promise = lemmas.kept_promise_computed;
}
