use Rattle.qc_front.proofs.OpenSites.{sites_have_one_open_request}
use Rattle.qc_front.proofs.laws.sites_have_one_open_request.Goals as goal

pub returns : goal.returns
returns c = sites_have_one_open_request
