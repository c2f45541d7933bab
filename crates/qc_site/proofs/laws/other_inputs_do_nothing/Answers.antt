use Rattle.std.proofs.Common.{refl}
use Rattle.qc_site.proofs.Rows.{undeclared}
use Rattle.qc_site.proofs.laws.other_inputs_do_nothing.Goals as goal

pub returns : goal.returns
returns c = record {
  undeclared = undeclared;
  answer = λ decl s from number to answer. refl;
  inquiry = λ decl s from number tx. refl;
  ask = λ decl s from number tx. refl;
  command = λ decl s command. refl;
  lost = λ decl s number. refl;
}
