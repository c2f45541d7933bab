use Rattle.qc_site.proofs.Rows.{looked_at, told_behind, told_closed, told_restarted, told_shut}
use Rattle.qc_site.proofs.laws.requests_are_answered_by_rows.Goals as goal

pub returns : goal.returns
returns c = record {
  behind = told_behind;
  closed = told_closed;
  shut = told_shut;
  restarted = told_restarted;
  looked_at = looked_at;
}
