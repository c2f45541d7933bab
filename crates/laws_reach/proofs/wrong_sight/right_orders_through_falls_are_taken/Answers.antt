use Rattle.laws_reach.proofs.WrongSight.{above_line, above_pending, above_told, asked_before_is_unseen}
use Rattle.laws_reach.proofs.WrongSight.{below_asked_before, below_shown_before, pending_saw, shown_before_is_unseen}
use Rattle.laws_reach.proofs.WrongSight.{shown_is_seen, told_is_seen}
use Rattle.laws_reach.proofs.wrong_sight.right_orders_through_falls_are_taken.Goals as goal

pub returns-clause-told_is_seen : goal.returns-clause-told_is_seen
returns-clause-told_is_seen c = told_is_seen

pub returns-clause-above_told : goal.returns-clause-above_told
returns-clause-above_told c = above_told

pub returns-clause-shown_is_seen : goal.returns-clause-shown_is_seen
returns-clause-shown_is_seen c = shown_is_seen

pub returns-clause-above_line : goal.returns-clause-above_line
returns-clause-above_line c = above_line

pub returns-clause-shown_is_seen_by_pending : goal.returns-clause-shown_is_seen_by_pending
returns-clause-shown_is_seen_by_pending c = pending_saw

pub returns-clause-above_pending : goal.returns-clause-above_pending
returns-clause-above_pending c = above_pending

pub returns-clause-shown_before_is_unseen : goal.returns-clause-shown_before_is_unseen
returns-clause-shown_before_is_unseen c = shown_before_is_unseen

pub returns-clause-below_shown_before : goal.returns-clause-below_shown_before
returns-clause-below_shown_before c = below_shown_before

pub returns-clause-asked_before_is_unseen : goal.returns-clause-asked_before_is_unseen
returns-clause-asked_before_is_unseen c = asked_before_is_unseen

pub returns-clause-below_asked_before : goal.returns-clause-below_asked_before
returns-clause-below_asked_before c = below_asked_before
