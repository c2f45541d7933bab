use Rattle.tests_falls.proofs.Random1To10Runs as lemmas
use Rattle.tests_falls.proofs.random.falls_1_to_10_are_runs.Goals as goal

pub returns : goal.returns
returns c = record {
  random1 = lemmas.random1_computed;
  random2 = lemmas.random2_computed;
  random3 = lemmas.random3_computed;
  random4 = lemmas.random4_computed;
  random5 = lemmas.random5_computed;
  random6 = lemmas.random6_computed;
  random7 = lemmas.random7_computed;
  random8 = lemmas.random8_computed;
  random9 = lemmas.random9_computed;
  random10 = lemmas.random10_computed;
}
