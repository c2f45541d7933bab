use Rattle.tests_runs.proofs.Histories31To35AreRuns as lemmas
use Rattle.tests_runs.proofs.random.histories_31_to_35_are_runs.Goals as goal

pub returns : goal.returns
returns c = record {
  random31 = lemmas.random31_computed;
  random32 = lemmas.random32_computed;
  random33 = lemmas.random33_computed;
  random34 = lemmas.random34_computed;
  random35 = lemmas.random35_computed;
}
