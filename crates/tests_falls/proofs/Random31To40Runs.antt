-- The random histories 31 to 40 are whole runs of their scripts.
use Rattle.std.proofs.Common.{◌≡◌, Some, refl}
use Rattle.tests_falls.specs.Perform.{run_with_falls}
use Rattle.tests_falls.specs.Random31 as random31
use Rattle.tests_falls.specs.Random32 as random32
use Rattle.tests_falls.specs.Random33 as random33
use Rattle.tests_falls.specs.Random34 as random34
use Rattle.tests_falls.specs.Random35 as random35
use Rattle.tests_falls.specs.Random36 as random36
use Rattle.tests_falls.specs.Random37 as random37
use Rattle.tests_falls.specs.Random38 as random38
use Rattle.tests_falls.specs.Random39 as random39
use Rattle.tests_falls.specs.Random40 as random40
use Rattle.tests_falls.specs.Random31To40Scripts as scripts4

pub random31_computed : run_with_falls random31.decl scripts4.random31 random31.moves ≡ Some random31.history
random31_computed = refl

pub random32_computed : run_with_falls random32.decl scripts4.random32 random32.moves ≡ Some random32.history
random32_computed = refl

pub random33_computed : run_with_falls random33.decl scripts4.random33 random33.moves ≡ Some random33.history
random33_computed = refl

pub random34_computed : run_with_falls random34.decl scripts4.random34 random34.moves ≡ Some random34.history
random34_computed = refl

pub random35_computed : run_with_falls random35.decl scripts4.random35 random35.moves ≡ Some random35.history
random35_computed = refl

pub random36_computed : run_with_falls random36.decl scripts4.random36 random36.moves ≡ Some random36.history
random36_computed = refl

pub random37_computed : run_with_falls random37.decl scripts4.random37 random37.moves ≡ Some random37.history
random37_computed = refl

pub random38_computed : run_with_falls random38.decl scripts4.random38 random38.moves ≡ Some random38.history
random38_computed = refl

pub random39_computed : run_with_falls random39.decl scripts4.random39 random39.moves ≡ Some random39.history
random39_computed = refl

pub random40_computed : run_with_falls random40.decl scripts4.random40 random40.moves ≡ Some random40.history
random40_computed = refl
