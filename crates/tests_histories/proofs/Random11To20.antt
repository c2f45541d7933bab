-- Random histories 11 to 20, computed.
use Rattle.std.proofs.Common.{◌≡◌, Some, refl}
use Rattle.tests_histories.specs.Play.{performed}
use Rattle.tests_histories.specs.Random11 as random11
use Rattle.tests_histories.specs.Random12 as random12
use Rattle.tests_histories.specs.Random13 as random13
use Rattle.tests_histories.specs.Random14 as random14
use Rattle.tests_histories.specs.Random15 as random15
use Rattle.tests_histories.specs.Random16 as random16
use Rattle.tests_histories.specs.Random17 as random17
use Rattle.tests_histories.specs.Random18 as random18
use Rattle.tests_histories.specs.Random19 as random19
use Rattle.tests_histories.specs.Random20 as random20

pub random11_performed : performed random11.decl random11.moves ≡ Some random11.history
random11_performed = refl

pub random12_performed : performed random12.decl random12.moves ≡ Some random12.history
random12_performed = refl

pub random13_performed : performed random13.decl random13.moves ≡ Some random13.history
random13_performed = refl

pub random14_performed : performed random14.decl random14.moves ≡ Some random14.history
random14_performed = refl

pub random15_performed : performed random15.decl random15.moves ≡ Some random15.history
random15_performed = refl

pub random16_performed : performed random16.decl random16.moves ≡ Some random16.history
random16_performed = refl

pub random17_performed : performed random17.decl random17.moves ≡ Some random17.history
random17_performed = refl

pub random18_performed : performed random18.decl random18.moves ≡ Some random18.history
random18_performed = refl

pub random19_performed : performed random19.decl random19.moves ≡ Some random19.history
random19_performed = refl

pub random20_performed : performed random20.decl random20.moves ≡ Some random20.history
random20_performed = refl
