-- The random histories 36 to 40 are whole runs of their scripts.
use Rattle.std.proofs.Common.{◌≡◌, Some, refl}
use Rattle.tests_histories.specs.Random36 as random36
use Rattle.tests_histories.specs.Random37 as random37
use Rattle.tests_histories.specs.Random38 as random38
use Rattle.tests_histories.specs.Random39 as random39
use Rattle.tests_histories.specs.Random40 as random40
use Rattle.tests_runs.specs.Perform.{run_by}
use Rattle.tests_runs.specs.Random36To40Scripts as scripts5

pub random36_computed : run_by random36.decl scripts5.random36 random36.moves ≡ Some random36.history
random36_computed = refl

pub random37_computed : run_by random37.decl scripts5.random37 random37.moves ≡ Some random37.history
random37_computed = refl

pub random38_computed : run_by random38.decl scripts5.random38 random38.moves ≡ Some random38.history
random38_computed = refl

pub random39_computed : run_by random39.decl scripts5.random39 random39.moves ≡ Some random39.history
random39_computed = refl

pub random40_computed : run_by random40.decl scripts5.random40 random40.moves ≡ Some random40.history
random40_computed = refl
