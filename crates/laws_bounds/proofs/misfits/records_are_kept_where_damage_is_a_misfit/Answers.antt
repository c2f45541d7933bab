use Rattle.laws_bounds.proofs.Kept.{run_kept}
use Rattle.laws_bounds.proofs.misfits.records_are_kept_where_damage_is_a_misfit.Goals as goal

pub returns : goal.returns
returns g c =
    λ decl script n h open_inputs accepted sound few below run within misfits.
    run_kept decl script n g.C.ConductWithFalls.fits h open_inputs accepted sound few below run within misfits
