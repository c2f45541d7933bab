use Rattle.qc_site.proofs.Votes.{promises_stand}
use Rattle.qc_site.proofs.laws.promises_stand.Goals as goal

pub returns : goal.returns
returns c = promises_stand
