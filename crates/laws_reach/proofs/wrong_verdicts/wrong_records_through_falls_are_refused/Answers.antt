use Rattle.laws_reach.proofs.WrongVerdicts.{asked_too_early, lost, of_another, pending_below, stamps_fall, turned}
use Rattle.laws_reach.proofs.wrong_verdicts.wrong_records_through_falls_are_refused.Goals as goal

pub returns-clause-stamps_fall : goal.returns-clause-stamps_fall
returns-clause-stamps_fall c = stamps_fall

pub returns-clause-pending_below : goal.returns-clause-pending_below
returns-clause-pending_below c = pending_below

pub returns-clause-lost : goal.returns-clause-lost
returns-clause-lost c = lost

pub returns-clause-of_another : goal.returns-clause-of_another
returns-clause-of_another c = of_another

pub returns-clause-asked_too_early : goal.returns-clause-asked_too_early
returns-clause-asked_too_early c = asked_too_early

pub returns-clause-turned : goal.returns-clause-turned
returns-clause-turned c = turned
