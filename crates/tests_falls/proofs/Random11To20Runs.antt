-- The random histories 11 to 20 are whole runs of their scripts.
use Rattle.std.proofs.Common.{◌≡◌, Some, refl}
use Rattle.tests_falls.specs.Perform.{run_with_falls}
use Rattle.tests_falls.specs.Random11 as random11
use Rattle.tests_falls.specs.Random12 as random12
use Rattle.tests_falls.specs.Random13 as random13
use Rattle.tests_falls.specs.Random14 as random14
use Rattle.tests_falls.specs.Random15 as random15
use Rattle.tests_falls.specs.Random16 as random16
use Rattle.tests_falls.specs.Random17 as random17
use Rattle.tests_falls.specs.Random18 as random18
use Rattle.tests_falls.specs.Random19 as random19
use Rattle.tests_falls.specs.Random20 as random20
use Rattle.tests_falls.specs.Random11To20Scripts as scripts2

pub random11_computed : run_with_falls random11.decl scripts2.random11 random11.moves ≡ Some random11.history
random11_computed = refl

pub random12_computed : run_with_falls random12.decl scripts2.random12 random12.moves ≡ Some random12.history
random12_computed = refl

pub random13_computed : run_with_falls random13.decl scripts2.random13 random13.moves ≡ Some random13.history
random13_computed = refl

pub random14_computed : run_with_falls random14.decl scripts2.random14 random14.moves ≡ Some random14.history
random14_computed = refl

pub random15_computed : run_with_falls random15.decl scripts2.random15 random15.moves ≡ Some random15.history
random15_computed = refl

pub random16_computed : run_with_falls random16.decl scripts2.random16 random16.moves ≡ Some random16.history
random16_computed = refl

pub random17_computed : run_with_falls random17.decl scripts2.random17 random17.moves ≡ Some random17.history
random17_computed = refl

pub random18_computed : run_with_falls random18.decl scripts2.random18 random18.moves ≡ Some random18.history
random18_computed = refl

pub random19_computed : run_with_falls random19.decl scripts2.random19 random19.moves ≡ Some random19.history
random19_computed = refl

pub random20_computed : run_with_falls random20.decl scripts2.random20 random20.moves ≡ Some random20.history
random20_computed = refl
