use Rattle.qc_link.proofs.Pairs.{cuts_part_two_actors}
use Rattle.qc_link.proofs.laws.cuts_part_two_actors.Goals as goal

pub returns : goal.returns
returns c = cuts_part_two_actors
