use Rattle.laws_reach.proofs.WrongVerdicts.{another_rises, asks_on, begins_again, begins_once_committed, never_begun}
use Rattle.laws_reach.proofs.WrongVerdicts.{rises_too_late, written_in_a_later_life}
use Rattle.laws_reach.proofs.wrong_verdicts.wrong_courses_through_falls_are_refused.Goals as goal

pub returns-clause-begins_again : goal.returns-clause-begins_again
returns-clause-begins_again c = begins_again

pub returns-clause-begins_once_committed : goal.returns-clause-begins_once_committed
returns-clause-begins_once_committed c = begins_once_committed

pub returns-clause-asks_on : goal.returns-clause-asks_on
returns-clause-asks_on c = asks_on

pub returns-clause-written_in_a_later_life : goal.returns-clause-written_in_a_later_life
returns-clause-written_in_a_later_life c = written_in_a_later_life

pub returns-clause-never_begun : goal.returns-clause-never_begun
returns-clause-never_begun c = never_begun

pub returns-clause-another_rises : goal.returns-clause-another_rises
returns-clause-another_rises c = another_rises

pub returns-clause-rises_too_late : goal.returns-clause-rises_too_late
returns-clause-rises_too_late c = rises_too_late
