use Rattle.tests_histories.proofs.Random1To10 as lemmas
use Rattle.tests_histories.proofs.random.histories_1_to_10_are_performed.Goals as goal

pub returns : goal.returns
returns c = record {
  random1 = lemmas.random1_performed;
  random2 = lemmas.random2_performed;
  random3 = lemmas.random3_performed;
  random4 = lemmas.random4_performed;
  random5 = lemmas.random5_performed;
  random6 = lemmas.random6_performed;
  random7 = lemmas.random7_performed;
  random8 = lemmas.random8_performed;
  random9 = lemmas.random9_performed;
  random10 = lemmas.random10_performed;
}
