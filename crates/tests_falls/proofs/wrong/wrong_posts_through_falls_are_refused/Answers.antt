use Rattle.tests_falls.proofs.WrongFalls as lemmas
use Rattle.tests_falls.proofs.wrong.wrong_posts_through_falls_are_refused.Goals as goal

pub returns : goal.returns
returns c = record {
  old_life = lemmas.old_life_refused;
  old_grant = lemmas.old_grant_refused;
  old_grant_unwritten = lemmas.old_grant_unwritten_refused;
  nothing_asked = lemmas.nothing_asked_refused;
  no_life = lemmas.no_life_refused;
  asked_unwritten = lemmas.asked_unwritten_refused;
  promise_dropped = lemmas.promise_dropped_refused;
  fault_alone = lemmas.fault_alone_refused;
  voted_unwritten = lemmas.voted_unwritten_refused;
  unknown_alone = lemmas.unknown_alone_refused;
  committed_unwritten = lemmas.committed_unwritten_refused;
  old_name = lemmas.old_name_refused;
  decided_without_record = lemmas.decided_without_record_refused;
  decided_against_record = lemmas.decided_against_record_refused;
  begun_while_down = lemmas.begun_while_down_refused;
  stamp_again = lemmas.stamp_again_refused;
}
