use Rattle.qc_link.proofs.Pairs.{heals_join_two_actors}
use Rattle.qc_link.proofs.laws.heals_join_two_actors.Goals as goal

pub returns : goal.returns
returns c = heals_join_two_actors
