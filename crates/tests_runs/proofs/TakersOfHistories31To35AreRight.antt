-- In the random histories 31 to 35 those that may take an input are the model's.
use Rattle.std.proofs.Common.{◌≡◌, refl}
use Rattle.tests_histories.specs.Random31 as random31
use Rattle.tests_histories.specs.Random32 as random32
use Rattle.tests_histories.specs.Random33 as random33
use Rattle.tests_histories.specs.Random34 as random34
use Rattle.tests_histories.specs.Random35 as random35
use Rattle.tests_runs.specs.Perform.{all_takers}
use Rattle.tests_runs.specs.Random31To35Scripts as scripts4
use Rattle.tests_runs.specs.Random31To35Takers as takers4

pub random31_computed : all_takers random31.decl scripts4.random31 random31.moves ≡ takers4.random31
random31_computed = refl

pub random32_computed : all_takers random32.decl scripts4.random32 random32.moves ≡ takers4.random32
random32_computed = refl

pub random33_computed : all_takers random33.decl scripts4.random33 random33.moves ≡ takers4.random33
random33_computed = refl

pub random34_computed : all_takers random34.decl scripts4.random34 random34.moves ≡ takers4.random34
random34_computed = refl

pub random35_computed : all_takers random35.decl scripts4.random35 random35.moves ≡ takers4.random35
random35_computed = refl
