use Rattle.laws_atomic.proofs.WrongOnes.{is_above, is_counted, is_late, is_unseen}
use Rattle.laws_atomic.proofs.wrong.right_orders_are_taken.Goals as goal

pub returns-clause-counted : goal.returns-clause-counted
returns-clause-counted c = is_counted

pub returns-clause-above : goal.returns-clause-above
returns-clause-above c = is_above

pub returns-clause-unseen : goal.returns-clause-unseen
returns-clause-unseen c = is_unseen

pub returns-clause-late : goal.returns-clause-late
returns-clause-late c = is_late
