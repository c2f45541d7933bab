-- In the random histories 11 to 20 those that may take an input are the model's.
use Rattle.std.proofs.Common.{◌≡◌, refl}
use Rattle.tests_histories.specs.Random11 as random11
use Rattle.tests_histories.specs.Random12 as random12
use Rattle.tests_histories.specs.Random13 as random13
use Rattle.tests_histories.specs.Random14 as random14
use Rattle.tests_histories.specs.Random15 as random15
use Rattle.tests_histories.specs.Random16 as random16
use Rattle.tests_histories.specs.Random17 as random17
use Rattle.tests_histories.specs.Random18 as random18
use Rattle.tests_histories.specs.Random19 as random19
use Rattle.tests_histories.specs.Random20 as random20
use Rattle.tests_runs.specs.Perform.{all_takers}
use Rattle.tests_runs.specs.Random11To20Scripts as scripts2
use Rattle.tests_runs.specs.Random11To20Takers as takers2

pub random11_computed : all_takers random11.decl scripts2.random11 random11.moves ≡ takers2.random11
random11_computed = refl

pub random12_computed : all_takers random12.decl scripts2.random12 random12.moves ≡ takers2.random12
random12_computed = refl

pub random13_computed : all_takers random13.decl scripts2.random13 random13.moves ≡ takers2.random13
random13_computed = refl

pub random14_computed : all_takers random14.decl scripts2.random14 random14.moves ≡ takers2.random14
random14_computed = refl

pub random15_computed : all_takers random15.decl scripts2.random15 random15.moves ≡ takers2.random15
random15_computed = refl

pub random16_computed : all_takers random16.decl scripts2.random16 random16.moves ≡ takers2.random16
random16_computed = refl

pub random17_computed : all_takers random17.decl scripts2.random17 random17.moves ≡ takers2.random17
random17_computed = refl

pub random18_computed : all_takers random18.decl scripts2.random18 random18.moves ≡ takers2.random18
random18_computed = refl

pub random19_computed : all_takers random19.decl scripts2.random19 random19.moves ≡ takers2.random19
random19_computed = refl

pub random20_computed : all_takers random20.decl scripts2.random20 random20.moves ≡ takers2.random20
random20_computed = refl
