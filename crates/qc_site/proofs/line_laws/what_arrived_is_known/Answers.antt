use Rattle.qc_site.proofs.Arrived.{after_arrived, stays_arrived}
use Rattle.qc_site.proofs.line_laws.what_arrived_is_known.Goals as goal

pub returns : goal.returns
returns c = record { message = stays_arrived; deeds = after_arrived }
