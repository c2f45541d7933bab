use Rattle.qc_site.proofs.Rows.{install_begins, install_known, install_long}
use Rattle.qc_site.proofs.laws.installs_are_answered_by_rows.Goals as goal

pub returns : goal.returns
returns c = record {
  known = λ decl s from number start. install_known decl s from number start.epoch start.clock start.lines;
  long = λ decl s from number start. install_long decl s from number start.epoch start.clock start.lines;
  begins = λ decl s from number start. install_begins decl s from number start.epoch start.clock start.lines;
}
