use Rattle.qc_view.proofs.Runs.{own_events_come_last}
use Rattle.qc_view.proofs.laws.own_events_come_last.Goals as goal

pub returns : goal.returns
returns c = own_events_come_last
