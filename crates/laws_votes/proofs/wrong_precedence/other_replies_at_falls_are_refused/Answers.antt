use Rattle.laws_votes.proofs.WrongPrecedence.{not_bare, not_later, not_response}
use Rattle.laws_votes.proofs.wrong_precedence.other_replies_at_falls_are_refused.Goals as goal

pub returns-clause-other : goal.returns-clause-other
returns-clause-other c = not_response

pub returns-clause-later : goal.returns-clause-later
returns-clause-later c = not_later

pub returns-clause-bare : goal.returns-clause-bare
returns-clause-bare c = not_bare
