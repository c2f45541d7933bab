-- In the random histories 36 to 40 those that may take an input are the model's.
use Rattle.std.proofs.Common.{◌≡◌, refl}
use Rattle.tests_histories.specs.Random36 as random36
use Rattle.tests_histories.specs.Random37 as random37
use Rattle.tests_histories.specs.Random38 as random38
use Rattle.tests_histories.specs.Random39 as random39
use Rattle.tests_histories.specs.Random40 as random40
use Rattle.tests_runs.specs.Perform.{all_takers}
use Rattle.tests_runs.specs.Random36To40Scripts as scripts5
use Rattle.tests_runs.specs.Random36To40Takers as takers5

pub random36_computed : all_takers random36.decl scripts5.random36 random36.moves ≡ takers5.random36
random36_computed = refl

pub random37_computed : all_takers random37.decl scripts5.random37 random37.moves ≡ takers5.random37
random37_computed = refl

pub random38_computed : all_takers random38.decl scripts5.random38 random38.moves ≡ takers5.random38
random38_computed = refl

pub random39_computed : all_takers random39.decl scripts5.random39 random39.moves ≡ takers5.random39
random39_computed = refl

pub random40_computed : all_takers random40.decl scripts5.random40 random40.moves ≡ takers5.random40
random40_computed = refl
