use Rattle.laws_bounds.proofs.RecordsFit.{journal_fits}
use Rattle.laws_bounds.proofs.records.journals_fit_their_actors.Goals as goal

pub returns : goal.returns
returns g c =
    λ decl script h open_inputs accepted sound run kept short a.
    journal_fits decl script g.C.ConductWithFalls.fits h open_inputs accepted sound run kept short a
