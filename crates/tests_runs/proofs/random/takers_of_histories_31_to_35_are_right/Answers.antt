use Rattle.tests_runs.proofs.TakersOfHistories31To35AreRight as lemmas
use Rattle.tests_runs.proofs.random.takers_of_histories_31_to_35_are_right.Goals as goal

pub returns : goal.returns
returns c = record {
  random31 = lemmas.random31_computed;
  random32 = lemmas.random32_computed;
  random33 = lemmas.random33_computed;
  random34 = lemmas.random34_computed;
  random35 = lemmas.random35_computed;
}
