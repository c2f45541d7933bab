use Rattle.tests_histories.proofs.Random21To30 as lemmas
use Rattle.tests_histories.proofs.random.histories_21_to_30_are_performed.Goals as goal

pub returns : goal.returns
returns c = record {
  random21 = lemmas.random21_performed;
  random22 = lemmas.random22_performed;
  random23 = lemmas.random23_performed;
  random24 = lemmas.random24_performed;
  random25 = lemmas.random25_performed;
  random26 = lemmas.random26_performed;
  random27 = lemmas.random27_performed;
  random28 = lemmas.random28_performed;
  random29 = lemmas.random29_performed;
  random30 = lemmas.random30_performed;
}
