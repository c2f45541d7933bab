use Rattle.qc_site.proofs.Rows.{close_again, close_behind, close_closed, close_closes}
use Rattle.qc_site.proofs.laws.closes_are_answered_by_rows.Goals as goal

pub returns : goal.returns
returns c = record {
  behind = close_behind;
  closed = close_closed;
  again = close_again;
  closes = close_closes;
}
