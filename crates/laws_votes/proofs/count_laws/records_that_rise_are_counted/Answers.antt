use Rattle.std.proofs.Common.{refl}
use Rattle.laws_votes.proofs.WrongBallots.{given_none, given_one, kept_with, kept_without}
use Rattle.laws_votes.proofs.count_laws.records_that_rise_are_counted.Goals as goal

pub returns-clause-kept : goal.returns-clause-kept
returns-clause-kept c = kept_with

pub returns-clause-counted : goal.returns-clause-counted
returns-clause-counted c = refl

pub returns-clause-uncounted : goal.returns-clause-uncounted
returns-clause-uncounted c = refl

pub returns-clause-given : goal.returns-clause-given
returns-clause-given c decl client = given_one decl client

pub returns-clause-kept_without : goal.returns-clause-kept_without
returns-clause-kept_without c = kept_without

pub returns-clause-without : goal.returns-clause-without
returns-clause-without c decl client = given_none decl client
