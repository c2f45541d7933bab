use Rattle.qc_fit.proofs.Words.{fits_is_as_said}
use Rattle.qc_fit.proofs.laws.fits_is_as_said.Goals as goal

pub returns : goal.returns
returns c = fits_is_as_said
