use Rattle.qc_site.proofs.Clocks.{passes_all, passes_stamps}
use Rattle.qc_site.proofs.laws.clocks_pass_what_comes.Goals as goal

pub returns : goal.returns
returns c = record { message = passes_stamps; deeds = passes_all }
