use Rattle.qc_cert.proofs.Computed.{covers_is_cover}
use Rattle.qc_cert.proofs.laws.covers_is_cover.Goals as goal

pub returns : goal.returns
returns c = covers_is_cover
