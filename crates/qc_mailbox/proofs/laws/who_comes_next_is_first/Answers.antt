use Rattle.qc_mailbox.proofs.Ranking.{lower_worse, none_better}
use Rattle.qc_mailbox.proofs.laws.who_comes_next_is_first.Goals as goal

pub returns : goal.returns
returns c = record { first = none_better; lowest = lower_worse }
