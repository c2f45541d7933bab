use Rattle.laws_reach.proofs.WrongVerdicts.{right_agreed, right_anew, right_given_up, right_in_vain, right_lost}
use Rattle.laws_reach.proofs.WrongVerdicts.{right_pending, right_recorded, right_written}
use Rattle.laws_reach.proofs.wrong_verdicts.right_courses_through_falls_are_taken.Goals as goal

pub returns-clause-given_up : goal.returns-clause-given_up
returns-clause-given_up c = right_given_up

pub returns-clause-written_rose : goal.returns-clause-written_rose
returns-clause-written_rose c = right_written

pub returns-clause-pending_rose : goal.returns-clause-pending_rose
returns-clause-pending_rose c = right_pending

pub returns-clause-pending_lost : goal.returns-clause-pending_lost
returns-clause-pending_lost c = right_lost

pub returns-clause-rises_in_vain : goal.returns-clause-rises_in_vain
returns-clause-rises_in_vain c = right_in_vain

pub returns-clause-begins_anew : goal.returns-clause-begins_anew
returns-clause-begins_anew c = right_anew

pub returns-clause-recorded : goal.returns-clause-recorded
returns-clause-recorded c = right_recorded

pub returns-clause-agreed : goal.returns-clause-agreed
returns-clause-agreed c = right_agreed
