use Rattle.qc_site.proofs.Refusals.{append_conflicts_not, read_conflicts_not}
use Rattle.qc_site.proofs.laws.grants_conflict_with_nothing.Goals as goal

pub returns : goal.returns
returns c = record { read = read_conflicts_not; append = append_conflicts_not }
