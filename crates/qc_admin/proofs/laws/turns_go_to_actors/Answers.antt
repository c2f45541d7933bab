use Rattle.qc_admin.proofs.Receivers.{turns_go_to_actors}
use Rattle.qc_admin.proofs.laws.turns_go_to_actors.Goals as goal

pub returns : goal.returns
returns c = turns_go_to_actors
