-- The random histories 1 to 10 are whole runs of their scripts.
use Rattle.std.proofs.Common.{◌≡◌, Some, refl}
use Rattle.tests_falls.specs.Perform.{run_with_falls}
use Rattle.tests_falls.specs.Random1 as random1
use Rattle.tests_falls.specs.Random2 as random2
use Rattle.tests_falls.specs.Random3 as random3
use Rattle.tests_falls.specs.Random4 as random4
use Rattle.tests_falls.specs.Random5 as random5
use Rattle.tests_falls.specs.Random6 as random6
use Rattle.tests_falls.specs.Random7 as random7
use Rattle.tests_falls.specs.Random8 as random8
use Rattle.tests_falls.specs.Random9 as random9
use Rattle.tests_falls.specs.Random10 as random10
use Rattle.tests_falls.specs.Random1To10Scripts as scripts1

pub random1_computed : run_with_falls random1.decl scripts1.random1 random1.moves ≡ Some random1.history
random1_computed = refl

pub random2_computed : run_with_falls random2.decl scripts1.random2 random2.moves ≡ Some random2.history
random2_computed = refl

pub random3_computed : run_with_falls random3.decl scripts1.random3 random3.moves ≡ Some random3.history
random3_computed = refl

pub random4_computed : run_with_falls random4.decl scripts1.random4 random4.moves ≡ Some random4.history
random4_computed = refl

pub random5_computed : run_with_falls random5.decl scripts1.random5 random5.moves ≡ Some random5.history
random5_computed = refl

pub random6_computed : run_with_falls random6.decl scripts1.random6 random6.moves ≡ Some random6.history
random6_computed = refl

pub random7_computed : run_with_falls random7.decl scripts1.random7 random7.moves ≡ Some random7.history
random7_computed = refl

pub random8_computed : run_with_falls random8.decl scripts1.random8 random8.moves ≡ Some random8.history
random8_computed = refl

pub random9_computed : run_with_falls random9.decl scripts1.random9 random9.moves ≡ Some random9.history
random9_computed = refl

pub random10_computed : run_with_falls random10.decl scripts1.random10 random10.moves ≡ Some random10.history
random10_computed = refl
