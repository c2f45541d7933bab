-- None of these is due: commits without their votes.
use Rattle.std.proofs.Common.{◌≡◌, [], Option, Some, None}
use Rattle.qc_decl.specs.Vocabulary.{three}
use Rattle.qc_msg.specs.declared.reply.Reply.{Reply}
use Rattle.qc_msg.specs.Vocabulary.{deeds}
use Rattle.qc_promise.specs.Vocabulary.{AreRepliesDue}
use Rattle.tests_histories.specs.Words.{stamp}
use Rattle.tests_due.proofs.Places.{due_at}
use Rattle.qc_msg.specs.declared.reply.AbortCause.TheVariants as causes
use Rattle.qc_msg.specs.declared.reply.Reply.TheVariants as replies
use Rattle.tests_due.specs.WrongVotes as wrong_votes

votes_for_another_differs : ◌≡◌ {A = Option Reply} None (Some (replies.Committed (stamp 1 0))) → ⊥
votes_for_another_differs e = let never : ⊥ = cc in never

pub votes_for_another_refused : AreRepliesDue three 0 (deeds 3 [] wrong_votes.votes_for_another) → ⊥
votes_for_another_refused all =
    votes_for_another_differs (due_at 25 three 0 (deeds 3 [] wrong_votes.votes_for_another) all).0

unvoted_differs : ◌≡◌ {A = Option Reply} None (Some (replies.Committed (stamp 1 0))) → ⊥
unvoted_differs e = let never : ⊥ = cc in never

pub unvoted_refused : AreRepliesDue three 0 (deeds 3 [] wrong_votes.unvoted) → ⊥
unvoted_refused all = unvoted_differs (due_at 9 three 0 (deeds 3 [] wrong_votes.unvoted) all).0

one_vote_differs : ◌≡◌ {A = Option Reply} None (Some (replies.Committed (stamp 1 0))) → ⊥
one_vote_differs e = let never : ⊥ = cc in never

pub one_vote_refused : AreRepliesDue three 0 (deeds 3 [] wrong_votes.one_vote) → ⊥
one_vote_refused all = one_vote_differs (due_at 11 three 0 (deeds 3 [] wrong_votes.one_vote) all).0

one_vote_open_differs : ◌≡◌ {A = Option Reply} None (Some (replies.Committed (stamp 1 0))) → ⊥
one_vote_open_differs e = let never : ⊥ = cc in never

pub one_vote_open_refused : AreRepliesDue three 0 (deeds 3 [] wrong_votes.one_vote_open) → ⊥
one_vote_open_refused all = one_vote_open_differs (due_at 12 three 0 (deeds 3 [] wrong_votes.one_vote_open) all).0

recorded_without_a_vote_differs : ◌≡◌ {A = Option Reply} (Some (replies.Aborted (causes.NoAnswer 0)))
    (Some (replies.Committed (stamp 1 0))) → ⊥
recorded_without_a_vote_differs e = let never : ⊥ = cc in never

pub recorded_without_a_vote_refused : AreRepliesDue three 0 (deeds 3 [] wrong_votes.recorded_without_a_vote) → ⊥
recorded_without_a_vote_refused all =
    recorded_without_a_vote_differs (due_at 15 three 0 (deeds 3 [] wrong_votes.recorded_without_a_vote) all).0

no_answer_though_answered_differs : ◌≡◌ {A = Option Reply} (Some (replies.Committed (stamp 1 0)))
    (Some (replies.Aborted (causes.NoAnswer 0))) → ⊥
no_answer_though_answered_differs e = let never : ⊥ = cc in never

pub no_answer_though_answered_refused : AreRepliesDue three 0 (deeds 3 [] wrong_votes.no_answer_though_answered) → ⊥
no_answer_though_answered_refused all =
    no_answer_though_answered_differs (due_at 13 three 0 (deeds 3 [] wrong_votes.no_answer_though_answered) all).0

stranger_votes_differs : ◌≡◌ {A = Option Reply} None (Some (replies.Aborted (causes.NoAnswer 2))) → ⊥
stranger_votes_differs e = let never : ⊥ = cc in never

pub stranger_votes_refused : AreRepliesDue three 0 (deeds 3 [] wrong_votes.stranger_votes) → ⊥
stranger_votes_refused all = stranger_votes_differs (due_at 11 three 0 (deeds 3 [] wrong_votes.stranger_votes) all).0

committed_though_doomed_differs : ◌≡◌ {A = Option Reply} (Some (replies.Aborted causes.Doomed))
    (Some (replies.Committed (stamp 1 1))) → ⊥
committed_though_doomed_differs e = let never : ⊥ = cc in never

pub committed_though_doomed_refused : AreRepliesDue three 1 (deeds 4 [] wrong_votes.committed_though_doomed) → ⊥
committed_though_doomed_refused all =
    committed_though_doomed_differs (due_at 11 three 1 (deeds 4 [] wrong_votes.committed_though_doomed) all).0
