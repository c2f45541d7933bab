use Rattle.laws_turns.proofs.WrongOnes.{asked_after, begins_twice, given_up, never_begun, second_record, told_aborted}
use Rattle.laws_turns.proofs.wrong.wrong_courses_are_refused.Goals as goal

pub returns-clause-begins_twice : goal.returns-clause-begins_twice
returns-clause-begins_twice c = begins_twice

pub returns-clause-never_begun : goal.returns-clause-never_begun
returns-clause-never_begun c = never_begun

pub returns-clause-second_record : goal.returns-clause-second_record
returns-clause-second_record c = second_record

pub returns-clause-given_up : goal.returns-clause-given_up
returns-clause-given_up c = given_up

pub returns-clause-told_aborted : goal.returns-clause-told_aborted
returns-clause-told_aborted c = told_aborted

pub returns-clause-asked_after : goal.returns-clause-asked_after
returns-clause-asked_after c = asked_after
