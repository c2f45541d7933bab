-- Random histories 21 to 30, computed.
use Rattle.std.proofs.Common.{◌≡◌, Some, refl}
use Rattle.tests_histories.specs.Play.{performed}
use Rattle.tests_histories.specs.Random21 as random21
use Rattle.tests_histories.specs.Random22 as random22
use Rattle.tests_histories.specs.Random23 as random23
use Rattle.tests_histories.specs.Random24 as random24
use Rattle.tests_histories.specs.Random25 as random25
use Rattle.tests_histories.specs.Random26 as random26
use Rattle.tests_histories.specs.Random27 as random27
use Rattle.tests_histories.specs.Random28 as random28
use Rattle.tests_histories.specs.Random29 as random29
use Rattle.tests_histories.specs.Random30 as random30

pub random21_performed : performed random21.decl random21.moves ≡ Some random21.history
random21_performed = refl

pub random22_performed : performed random22.decl random22.moves ≡ Some random22.history
random22_performed = refl

pub random23_performed : performed random23.decl random23.moves ≡ Some random23.history
random23_performed = refl

pub random24_performed : performed random24.decl random24.moves ≡ Some random24.history
random24_performed = refl

pub random25_performed : performed random25.decl random25.moves ≡ Some random25.history
random25_performed = refl

pub random26_performed : performed random26.decl random26.moves ≡ Some random26.history
random26_performed = refl

pub random27_performed : performed random27.decl random27.moves ≡ Some random27.history
random27_performed = refl

pub random28_performed : performed random28.decl random28.moves ≡ Some random28.history
random28_performed = refl

pub random29_performed : performed random29.decl random29.moves ≡ Some random29.history
random29_performed = refl

pub random30_performed : performed random30.decl random30.moves ≡ Some random30.history
random30_performed = refl
