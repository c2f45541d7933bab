-- In the worked histories each command is answered.
use Rattle.std.proofs.Common.{refl}
use Rattle.tests_ends.specs.Answered.{IsAnswered}
use Rattle.tests_falls.specs.FaultyPromise as faulty_promise
use Rattle.tests_falls.specs.KeptPromise as kept_promise
use Rattle.tests_falls.specs.LostDecisions as lost_decisions
use Rattle.tests_falls.specs.RestartedSite as restarted_site
use Rattle.tests_falls.specs.SecondLives as second_lives
use Rattle.tests_falls.specs.UnknownCommit as unknown_commit
use Rattle.tests_falls.specs.WorkedScripts as scripts

pub restarted_site_answered : IsAnswered scripts.restarted_site restarted_site.history 3
restarted_site_answered = ((_, refl), ((_, refl), ((_, refl), tt)))

pub unknown_commit_answered : IsAnswered scripts.unknown_commit unknown_commit.history 3
    × IsAnswered scripts.unknown_commit unknown_commit.history 4
unknown_commit_answered =
    (((_, refl), ((_, refl), ((_, refl), tt))), ((_, refl), ((_, refl), ((_, refl), ((_, refl), tt)))))

pub lost_decisions_answered : IsAnswered scripts.lost_decisions lost_decisions.history 3
    × IsAnswered scripts.lost_decisions lost_decisions.history 4
lost_decisions_answered =
    (((_, refl), ((_, refl), ((_, refl), tt))), ((_, refl), ((_, refl), ((_, refl), ((_, refl), tt)))))

pub faulty_promise_answered : IsAnswered scripts.faulty_promise faulty_promise.history 3
faulty_promise_answered = ((_, refl), ((_, refl), ((_, refl), tt)))

pub second_lives_answered : IsAnswered scripts.second_lives second_lives.history 3
second_lives_answered = (
  (_, refl),
  ((_, refl), ((_, refl), ((_, refl), ((_, refl), ((_, refl), ((_, refl), ((_, refl), ((_, refl), tt)))))))),
)

pub kept_promise_answered : IsAnswered scripts.kept_promise kept_promise.history 3
    × IsAnswered scripts.kept_promise kept_promise.history 5
kept_promise_answered = (((_, refl), ((_, refl), ((_, refl), tt))), ((_, refl), ((_, refl), tt)))
