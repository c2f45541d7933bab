use Rattle.laws_votes.proofs.WrongPromises.{aborted, done, dropped, had, lost, stands_again, stands_once}
use Rattle.laws_votes.proofs.wrong_holdings.promises_that_were_let_go_are_refused.Goals as goal

pub returns-clause-kept : goal.returns-clause-kept
returns-clause-kept c = stands_once

pub returns-clause-lost : goal.returns-clause-lost
returns-clause-lost c = lost

pub returns-clause-done : goal.returns-clause-done
returns-clause-done c = done

pub returns-clause-aborted : goal.returns-clause-aborted
returns-clause-aborted c = aborted

pub returns-clause-dropped : goal.returns-clause-dropped
returns-clause-dropped c = dropped

pub returns-clause-again : goal.returns-clause-again
returns-clause-again c = stands_again

pub returns-clause-had : goal.returns-clause-had
returns-clause-had c = had
