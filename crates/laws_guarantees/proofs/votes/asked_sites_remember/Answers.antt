use Rattle.laws_guarantees.proofs.Counted.{asked_sites_remember}
use Rattle.laws_guarantees.proofs.votes.asked_sites_remember.Goals as goal

pub returns : goal.returns
returns c decl script h open_inputs a t q accepted sound run few client current k at_rest =
    asked_sites_remember decl script accepted sound h open_inputs run few a q t client current k at_rest
