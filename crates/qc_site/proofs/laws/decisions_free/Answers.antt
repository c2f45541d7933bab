use Rattle.std.proofs.Common.{refl}
use Rattle.qc_site.proofs.Holding.{frees_held, frees_prepared, others_held, others_prepared}
use Rattle.qc_site.proofs.laws.decisions_free.Goals as goal

pub returns : goal.returns
returns c = record {
  held = frees_held;
  prepared = frees_prepared;
  others_held = others_held;
  others_prepared = others_prepared;
  active = λ decl s from number tx. refl;
}
