use Rattle.tests_falls.proofs.WrongFalls as lemmas
use Rattle.tests_falls.proofs.wrong.wrong_rises_are_refused.Goals as goal

pub returns : goal.returns
returns c = record {
  late_record = lemmas.late_record_refused;
  record_lost = lemmas.record_lost_refused;
  record_more = lemmas.record_more_refused;
}
