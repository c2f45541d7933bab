-- In the random histories 1 to 10 those that may take an input are the model's.
use Rattle.std.proofs.Common.{◌≡◌, refl}
use Rattle.tests_histories.specs.Random1 as random1
use Rattle.tests_histories.specs.Random2 as random2
use Rattle.tests_histories.specs.Random3 as random3
use Rattle.tests_histories.specs.Random4 as random4
use Rattle.tests_histories.specs.Random5 as random5
use Rattle.tests_histories.specs.Random6 as random6
use Rattle.tests_histories.specs.Random7 as random7
use Rattle.tests_histories.specs.Random8 as random8
use Rattle.tests_histories.specs.Random9 as random9
use Rattle.tests_histories.specs.Random10 as random10
use Rattle.tests_runs.specs.Perform.{all_takers}
use Rattle.tests_runs.specs.Random1To10Scripts as scripts1
use Rattle.tests_runs.specs.Random1To10Takers as takers1

pub random1_computed : all_takers random1.decl scripts1.random1 random1.moves ≡ takers1.random1
random1_computed = refl

pub random2_computed : all_takers random2.decl scripts1.random2 random2.moves ≡ takers1.random2
random2_computed = refl

pub random3_computed : all_takers random3.decl scripts1.random3 random3.moves ≡ takers1.random3
random3_computed = refl

pub random4_computed : all_takers random4.decl scripts1.random4 random4.moves ≡ takers1.random4
random4_computed = refl

pub random5_computed : all_takers random5.decl scripts1.random5 random5.moves ≡ takers1.random5
random5_computed = refl

pub random6_computed : all_takers random6.decl scripts1.random6 random6.moves ≡ takers1.random6
random6_computed = refl

pub random7_computed : all_takers random7.decl scripts1.random7 random7.moves ≡ takers1.random7
random7_computed = refl

pub random8_computed : all_takers random8.decl scripts1.random8 random8.moves ≡ takers1.random8
random8_computed = refl

pub random9_computed : all_takers random9.decl scripts1.random9 random9.moves ≡ takers1.random9
random9_computed = refl

pub random10_computed : all_takers random10.decl scripts1.random10 random10.moves ≡ takers1.random10
random10_computed = refl
