-- Random histories 31 to 40, computed.
use Rattle.std.proofs.Common.{◌≡◌, Some, refl}
use Rattle.tests_histories.specs.Play.{performed}
use Rattle.tests_histories.specs.Random31 as random31
use Rattle.tests_histories.specs.Random32 as random32
use Rattle.tests_histories.specs.Random33 as random33
use Rattle.tests_histories.specs.Random34 as random34
use Rattle.tests_histories.specs.Random35 as random35
use Rattle.tests_histories.specs.Random36 as random36
use Rattle.tests_histories.specs.Random37 as random37
use Rattle.tests_histories.specs.Random38 as random38
use Rattle.tests_histories.specs.Random39 as random39
use Rattle.tests_histories.specs.Random40 as random40

pub random31_performed : performed random31.decl random31.moves ≡ Some random31.history
random31_performed = refl

pub random32_performed : performed random32.decl random32.moves ≡ Some random32.history
random32_performed = refl

pub random33_performed : performed random33.decl random33.moves ≡ Some random33.history
random33_performed = refl

pub random34_performed : performed random34.decl random34.moves ≡ Some random34.history
random34_performed = refl

pub random35_performed : performed random35.decl random35.moves ≡ Some random35.history
random35_performed = refl

pub random36_performed : performed random36.decl random36.moves ≡ Some random36.history
random36_performed = refl

pub random37_performed : performed random37.decl random37.moves ≡ Some random37.history
random37_performed = refl

pub random38_performed : performed random38.decl random38.moves ≡ Some random38.history
random38_performed = refl

pub random39_performed : performed random39.decl random39.moves ≡ Some random39.history
random39_performed = refl

pub random40_performed : performed random40.decl random40.moves ≡ Some random40.history
random40_performed = refl
