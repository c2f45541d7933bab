use Rattle.tests_runs.proofs.TakersOfHistories36To40AreRight as lemmas
use Rattle.tests_runs.proofs.random.takers_of_histories_36_to_40_are_right.Goals as goal

pub returns : goal.returns
returns c = record {
  random36 = lemmas.random36_computed;
  random37 = lemmas.random37_computed;
  random38 = lemmas.random38_computed;
  random39 = lemmas.random39_computed;
  random40 = lemmas.random40_computed;
}
