use Rattle.laws_refinement.proofs.OneRequestLaw.{clients_have_one_open_request_at_a_site}
use Rattle.laws_refinement.proofs.laws.clients_have_one_open_request_at_a_site.Goals as goal

pub returns : goal.returns
returns c decl net a reached = clients_have_one_open_request_at_a_site decl net reached a
