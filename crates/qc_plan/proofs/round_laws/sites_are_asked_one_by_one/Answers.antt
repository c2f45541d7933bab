use Rattle.qc_plan.proofs.Rounds.{sites_are_asked_one_by_one}
use Rattle.qc_plan.proofs.round_laws.sites_are_asked_one_by_one.Goals as goal

pub returns : goal.returns
returns c = sites_are_asked_one_by_one
