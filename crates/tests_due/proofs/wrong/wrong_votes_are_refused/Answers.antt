use Rattle.tests_due.proofs.WrongVotes as lemmas
use Rattle.tests_due.proofs.wrong.wrong_votes_are_refused.Goals as goal

pub returns : goal.returns
returns c = record {
  votes_for_another = lemmas.votes_for_another_refused;
  unvoted = lemmas.unvoted_refused;
  one_vote = lemmas.one_vote_refused;
  one_vote_open = lemmas.one_vote_open_refused;
  recorded_without_a_vote = lemmas.recorded_without_a_vote_refused;
  no_answer_though_answered = lemmas.no_answer_though_answered_refused;
  stranger_votes = lemmas.stranger_votes_refused;
  committed_though_doomed = lemmas.committed_though_doomed_refused;
}
