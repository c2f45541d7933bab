use Rattle.qc_site.proofs.Holding.{append_holds, read_holds}
use Rattle.qc_site.proofs.laws.grants_are_held.Goals as goal

pub returns : goal.returns
returns c = record { read = read_holds; append = append_holds }
