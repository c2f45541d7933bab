-- The random histories 31 to 35 are whole runs of their scripts.
use Rattle.std.proofs.Common.{◌≡◌, Some, refl}
use Rattle.tests_histories.specs.Random31 as random31
use Rattle.tests_histories.specs.Random32 as random32
use Rattle.tests_histories.specs.Random33 as random33
use Rattle.tests_histories.specs.Random34 as random34
use Rattle.tests_histories.specs.Random35 as random35
use Rattle.tests_runs.specs.Perform.{run_by}
use Rattle.tests_runs.specs.Random31To35Scripts as scripts4

pub random31_computed : run_by random31.decl scripts4.random31 random31.moves ≡ Some random31.history
random31_computed = refl

pub random32_computed : run_by random32.decl scripts4.random32 random32.moves ≡ Some random32.history
random32_computed = refl

pub random33_computed : run_by random33.decl scripts4.random33 random33.moves ≡ Some random33.history
random33_computed = refl

pub random34_computed : run_by random34.decl scripts4.random34 random34.moves ≡ Some random34.history
random34_computed = refl

pub random35_computed : run_by random35.decl scripts4.random35 random35.moves ≡ Some random35.history
random35_computed = refl
