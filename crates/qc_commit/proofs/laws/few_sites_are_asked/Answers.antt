use Rattle.qc_commit.proofs.Aside.{few_sites_are_asked}
use Rattle.qc_commit.proofs.laws.few_sites_are_asked.Goals as goal

pub returns : goal.returns
returns c = few_sites_are_asked
