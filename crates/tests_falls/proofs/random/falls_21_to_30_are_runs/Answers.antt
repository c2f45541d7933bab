use Rattle.tests_falls.proofs.Random21To30Runs as lemmas
use Rattle.tests_falls.proofs.random.falls_21_to_30_are_runs.Goals as goal

pub returns : goal.returns
returns c = record {
  random21 = lemmas.random21_computed;
  random22 = lemmas.random22_computed;
  random23 = lemmas.random23_computed;
  random24 = lemmas.random24_computed;
  random25 = lemmas.random25_computed;
  random26 = lemmas.random26_computed;
  random27 = lemmas.random27_computed;
  random28 = lemmas.random28_computed;
  random29 = lemmas.random29_computed;
  random30 = lemmas.random30_computed;
}
