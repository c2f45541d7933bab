use Rattle.laws_reach.proofs.AtomicLaw.{runs_with_falls_are_atomic_where_records_are_kept}
use Rattle.laws_reach.proofs.sight.runs_with_falls_are_atomic_where_records_are_kept.Goals as goal

pub returns : goal.returns
returns g c = runs_with_falls_are_atomic_where_records_are_kept g.C.ConductWithFalls.fits
