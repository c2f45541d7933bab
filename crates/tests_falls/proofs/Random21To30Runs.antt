-- The random histories 21 to 30 are whole runs of their scripts.
use Rattle.std.proofs.Common.{◌≡◌, Some, refl}
use Rattle.tests_falls.specs.Perform.{run_with_falls}
use Rattle.tests_falls.specs.Random21 as random21
use Rattle.tests_falls.specs.Random22 as random22
use Rattle.tests_falls.specs.Random23 as random23
use Rattle.tests_falls.specs.Random24 as random24
use Rattle.tests_falls.specs.Random25 as random25
use Rattle.tests_falls.specs.Random26 as random26
use Rattle.tests_falls.specs.Random27 as random27
use Rattle.tests_falls.specs.Random28 as random28
use Rattle.tests_falls.specs.Random29 as random29
use Rattle.tests_falls.specs.Random30 as random30
use Rattle.tests_falls.specs.Random21To30Scripts as scripts3

pub random21_computed : run_with_falls random21.decl scripts3.random21 random21.moves ≡ Some random21.history
random21_computed = refl

pub random22_computed : run_with_falls random22.decl scripts3.random22 random22.moves ≡ Some random22.history
random22_computed = refl

pub random23_computed : run_with_falls random23.decl scripts3.random23 random23.moves ≡ Some random23.history
random23_computed = refl

pub random24_computed : run_with_falls random24.decl scripts3.random24 random24.moves ≡ Some random24.history
random24_computed = refl

pub random25_computed : run_with_falls random25.decl scripts3.random25 random25.moves ≡ Some random25.history
random25_computed = refl

pub random26_computed : run_with_falls random26.decl scripts3.random26 random26.moves ≡ Some random26.history
random26_computed = refl

pub random27_computed : run_with_falls random27.decl scripts3.random27 random27.moves ≡ Some random27.history
random27_computed = refl

pub random28_computed : run_with_falls random28.decl scripts3.random28 random28.moves ≡ Some random28.history
random28_computed = refl

pub random29_computed : run_with_falls random29.decl scripts3.random29 random29.moves ≡ Some random29.history
random29_computed = refl

pub random30_computed : run_with_falls random30.decl scripts3.random30 random30.moves ≡ Some random30.history
random30_computed = refl
