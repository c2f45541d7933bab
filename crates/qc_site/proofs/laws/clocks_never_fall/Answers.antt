use Rattle.qc_site.proofs.Clocks.{clocks_never_fall}
use Rattle.qc_site.proofs.laws.clocks_never_fall.Goals as goal

pub returns : goal.returns
returns c = clocks_never_fall
