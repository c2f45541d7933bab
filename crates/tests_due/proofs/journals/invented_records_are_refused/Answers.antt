use Rattle.tests_due.proofs.Records.{another_one, doubled, of_another, one_more, turned}
use Rattle.tests_due.proofs.journals.invented_records_are_refused.Goals as goal

pub returns-clause-more : goal.returns-clause-more
returns-clause-more c = one_more

pub returns-clause-other : goal.returns-clause-other
returns-clause-other c = another_one

pub returns-clause-doubled : goal.returns-clause-doubled
returns-clause-doubled c = doubled

pub returns-clause-turned : goal.returns-clause-turned
returns-clause-turned c = turned

pub returns-clause-another : goal.returns-clause-another
returns-clause-another c = of_another
