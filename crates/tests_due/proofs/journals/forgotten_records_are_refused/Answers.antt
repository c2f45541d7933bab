use Rattle.tests_due.proofs.Records.{first_of_two, none_of_one, not_before, not_read, not_since, second_of_two}
use Rattle.tests_due.proofs.journals.forgotten_records_are_refused.Goals as goal

pub returns-clause-all : goal.returns-clause-all
returns-clause-all c = none_of_one

pub returns-clause-last : goal.returns-clause-last
returns-clause-last c = first_of_two

pub returns-clause-first : goal.returns-clause-first
returns-clause-first c = second_of_two

pub returns-clause-since : goal.returns-clause-since
returns-clause-since c = not_since

pub returns-clause-before : goal.returns-clause-before
returns-clause-before c = not_before

pub returns-clause-damaged : goal.returns-clause-damaged
returns-clause-damaged c = not_read
