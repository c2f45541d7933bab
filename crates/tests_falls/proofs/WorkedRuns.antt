-- The worked histories are whole runs of their scripts.
use Rattle.std.proofs.Common.{◌≡◌, Some, refl}
use Rattle.qc_decl.specs.Vocabulary.{three}
use Rattle.tests_falls.specs.Perform.{run_with_falls}
use Rattle.tests_falls.specs.RestartedSite as restarted_site
use Rattle.tests_falls.specs.UnknownCommit as unknown_commit
use Rattle.tests_falls.specs.LostDecisions as lost_decisions
use Rattle.tests_falls.specs.FaultyPromise as faulty_promise
use Rattle.tests_falls.specs.SecondLives as second_lives
use Rattle.tests_falls.specs.KeptPromise as kept_promise
use Rattle.tests_falls.specs.WorkedScripts as scripts

pub restarted_site_computed : run_with_falls three scripts.restarted_site restarted_site.moves
    ≡ Some restarted_site.history
restarted_site_computed = refl

pub unknown_commit_computed : run_with_falls three scripts.unknown_commit unknown_commit.moves
    ≡ Some unknown_commit.history
unknown_commit_computed = refl

pub lost_decisions_computed : run_with_falls three scripts.lost_decisions lost_decisions.moves
    ≡ Some lost_decisions.history
lost_decisions_computed = refl

pub faulty_promise_computed : run_with_falls faulty_promise.decl scripts.faulty_promise faulty_promise.moves
    ≡ Some faulty_promise.history
faulty_promise_computed = refl

pub second_lives_computed : run_with_falls three scripts.second_lives second_lives.moves ≡ Some second_lives.history
second_lives_computed = refl

pub kept_promise_computed : run_with_falls three scripts.kept_promise kept_promise.moves ≡ Some kept_promise.history
kept_promise_computed = refl
