use Rattle.qc_site.proofs.Logs.{began_lasts, learns_brought, log_gains}
use Rattle.qc_site.proofs.line_laws.logs_gain_what_is_brought.Goals as goal

pub returns : goal.returns
returns c = record {
  log = log_gains;
  began = began_lasts;
  arrived = λ decl s from number message stays. (learns_brought decl s from number message stays).1;
}
