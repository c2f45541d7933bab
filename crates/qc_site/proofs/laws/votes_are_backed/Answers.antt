use Rattle.qc_site.proofs.Votes.{votes_are_backed}
use Rattle.qc_site.proofs.laws.votes_are_backed.Goals as goal

pub returns : goal.returns
returns c = votes_are_backed
