-- In the random histories 21 to 30 those that may take an input are the model's.
use Rattle.std.proofs.Common.{◌≡◌, refl}
use Rattle.tests_histories.specs.Random21 as random21
use Rattle.tests_histories.specs.Random22 as random22
use Rattle.tests_histories.specs.Random23 as random23
use Rattle.tests_histories.specs.Random24 as random24
use Rattle.tests_histories.specs.Random25 as random25
use Rattle.tests_histories.specs.Random26 as random26
use Rattle.tests_histories.specs.Random27 as random27
use Rattle.tests_histories.specs.Random28 as random28
use Rattle.tests_histories.specs.Random29 as random29
use Rattle.tests_histories.specs.Random30 as random30
use Rattle.tests_runs.specs.Perform.{all_takers}
use Rattle.tests_runs.specs.Random21To30Scripts as scripts3
use Rattle.tests_runs.specs.Random21To30Takers as takers3

pub random21_computed : all_takers random21.decl scripts3.random21 random21.moves ≡ takers3.random21
random21_computed = refl

pub random22_computed : all_takers random22.decl scripts3.random22 random22.moves ≡ takers3.random22
random22_computed = refl

pub random23_computed : all_takers random23.decl scripts3.random23 random23.moves ≡ takers3.random23
random23_computed = refl

pub random24_computed : all_takers random24.decl scripts3.random24 random24.moves ≡ takers3.random24
random24_computed = refl

pub random25_computed : all_takers random25.decl scripts3.random25 random25.moves ≡ takers3.random25
random25_computed = refl

pub random26_computed : all_takers random26.decl scripts3.random26 random26.moves ≡ takers3.random26
random26_computed = refl

pub random27_computed : all_takers random27.decl scripts3.random27 random27.moves ≡ takers3.random27
random27_computed = refl

pub random28_computed : all_takers random28.decl scripts3.random28 random28.moves ≡ takers3.random28
random28_computed = refl

pub random29_computed : all_takers random29.decl scripts3.random29 random29.moves ≡ takers3.random29
random29_computed = refl

pub random30_computed : all_takers random30.decl scripts3.random30 random30.moves ≡ takers3.random30
random30_computed = refl
