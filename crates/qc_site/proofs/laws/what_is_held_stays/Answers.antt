use Rattle.qc_site.proofs.Holding.{lock_stays, operation_stays}
use Rattle.qc_site.proofs.laws.what_is_held_stays.Goals as goal

pub returns : goal.returns
returns c = record {
  locks = λ decl s from number message tx lock member ongoing closes installs. lock_stays decl s from number message tx
      lock member ongoing (closes, installs);
  own = λ decl s from number message tx op has ongoing closes installs. operation_stays decl s from number message tx op
      has ongoing (closes, installs);
}
