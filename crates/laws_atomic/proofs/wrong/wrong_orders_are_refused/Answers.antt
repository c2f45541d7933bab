use Rattle.laws_atomic.proofs.WrongOnes.{below_earlier, below_line, below_told, has_no_record, not_atomic}
use Rattle.laws_atomic.proofs.wrong.wrong_orders_are_refused.Goals as goal

pub returns-clause-below_line : goal.returns-clause-below_line
returns-clause-below_line c = below_line

pub returns-clause-below_earlier : goal.returns-clause-below_earlier
returns-clause-below_earlier c = below_earlier

pub returns-clause-below_told : goal.returns-clause-below_told
returns-clause-below_told c = below_told

pub returns-clause-unrecorded : goal.returns-clause-unrecorded
returns-clause-unrecorded c = has_no_record

pub returns-clause-not_atomic : goal.returns-clause-not_atomic
returns-clause-not_atomic c = not_atomic
