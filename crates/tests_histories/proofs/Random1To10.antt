-- Random histories 1 to 10, computed.
use Rattle.std.proofs.Common.{◌≡◌, Some, refl}
use Rattle.tests_histories.specs.Play.{performed}
use Rattle.tests_histories.specs.Random1 as random1
use Rattle.tests_histories.specs.Random2 as random2
use Rattle.tests_histories.specs.Random3 as random3
use Rattle.tests_histories.specs.Random4 as random4
use Rattle.tests_histories.specs.Random5 as random5
use Rattle.tests_histories.specs.Random6 as random6
use Rattle.tests_histories.specs.Random7 as random7
use Rattle.tests_histories.specs.Random8 as random8
use Rattle.tests_histories.specs.Random9 as random9
use Rattle.tests_histories.specs.Random10 as random10

pub random1_performed : performed random1.decl random1.moves ≡ Some random1.history
random1_performed = refl

pub random2_performed : performed random2.decl random2.moves ≡ Some random2.history
random2_performed = refl

pub random3_performed : performed random3.decl random3.moves ≡ Some random3.history
random3_performed = refl

pub random4_performed : performed random4.decl random4.moves ≡ Some random4.history
random4_performed = refl

pub random5_performed : performed random5.decl random5.moves ≡ Some random5.history
random5_performed = refl

pub random6_performed : performed random6.decl random6.moves ≡ Some random6.history
random6_performed = refl

pub random7_performed : performed random7.decl random7.moves ≡ Some random7.history
random7_performed = refl

pub random8_performed : performed random8.decl random8.moves ≡ Some random8.history
random8_performed = refl

pub random9_performed : performed random9.decl random9.moves ≡ Some random9.history
random9_performed = refl

pub random10_performed : performed random10.decl random10.moves ≡ Some random10.history
random10_performed = refl
