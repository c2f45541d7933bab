-- None of these is due: rounds of Reads that no site, or too few, answered.
use Rattle.std.proofs.Common.{◌≡◌, ℕ, [], Option, Some, None, ap}
use Rattle.qc_decl.specs.Vocabulary.{three}
use Rattle.qc_msg.specs.declared.reply.Reply.{Reply}
use Rattle.qc_msg.specs.Vocabulary.{deeds}
use Rattle.qc_promise.specs.Vocabulary.{AreRepliesDue}
use Rattle.tests_histories.specs.Words.{tx}
use Rattle.tests_due.proofs.Places.{client_named, due_at}
use Rattle.qc_msg.specs.declared.reply.Half.TheVariants as halves
use Rattle.qc_msg.specs.declared.reply.Reply.TheVariants as replies
use Rattle.tests_due.specs.WrongReads as wrong_reads

unasked_differs : ◌≡◌ {A = Option Reply} None (Some (replies.Response 0)) → ⊥
unasked_differs e = let never : ⊥ = cc in never

pub unasked_refused : AreRepliesDue three 0 (deeds 3 [] wrong_reads.unasked) → ⊥
unasked_refused all = unasked_differs (due_at 3 three 0 (deeds 3 [] wrong_reads.unasked) all).0

each_conflicts_differs : ◌≡◌ {A = Option Reply} None (Some (replies.Conflict (tx 1 1) 0)) → ⊥
each_conflicts_differs e = let never : ⊥ = cc in never

pub each_conflicts_refused : AreRepliesDue three 0 (deeds 3 [] wrong_reads.each_conflicts) → ⊥
each_conflicts_refused all = each_conflicts_differs (due_at 3 three 0 (deeds 3 [] wrong_reads.each_conflicts) all).0

each_short_differs : ◌≡◌ {A = Option Reply} None (Some (replies.Quorum halves.Read 0 2)) → ⊥
each_short_differs e = let never : ⊥ = cc in never

pub each_short_refused : AreRepliesDue three 0 (deeds 3 [] wrong_reads.each_short) → ⊥
each_short_refused all = each_short_differs (due_at 3 three 0 (deeds 3 [] wrong_reads.each_short) all).0

one_grant_differs : ◌≡◌ {A = Option Reply} None (Some (replies.Response 0)) → ⊥
one_grant_differs e = let never : ⊥ = cc in never

pub one_grant_refused : AreRepliesDue three 0 (deeds 3 [] wrong_reads.one_grant) → ⊥
one_grant_refused all = one_grant_differs (due_at 5 three 0 (deeds 3 [] wrong_reads.one_grant) all).0

one_site_twice_differs : ◌≡◌ {A = Option Reply} None (Some (replies.Response 0)) → ⊥
one_site_twice_differs e = let never : ⊥ = cc in never

pub one_site_twice_refused : AreRepliesDue three 0 (deeds 3 [] wrong_reads.one_site_twice) → ⊥
one_site_twice_refused all = one_site_twice_differs (due_at 7 three 0 (deeds 3 [] wrong_reads.one_site_twice) all).0

another_invocation_differs : ◌≡◌ {A = Option Reply} None (Some (replies.Response 0)) → ⊥
another_invocation_differs e = let never : ⊥ = cc in never

pub another_invocation_refused : AreRepliesDue three 0 (deeds 3 [] wrong_reads.another_invocation) → ⊥
another_invocation_refused all =
    another_invocation_differs (due_at 7 three 0 (deeds 3 [] wrong_reads.another_invocation) all).0

another_epoch_differs : ◌≡◌ {A = Option Reply} None (Some (replies.Response 0)) → ⊥
another_epoch_differs e = let never : ⊥ = cc in never

pub another_epoch_refused : AreRepliesDue three 0 (deeds 3 [] wrong_reads.another_epoch) → ⊥
another_epoch_refused all = another_epoch_differs (due_at 7 three 0 (deeds 3 [] wrong_reads.another_epoch) all).0

earlier_answers_differs : ◌≡◌ {A = Option Reply} None (Some (replies.Response 0)) → ⊥
earlier_answers_differs e = let never : ⊥ = cc in never

pub earlier_answers_refused : AreRepliesDue three 0 (deeds 3 [] wrong_reads.earlier_answers) → ⊥
earlier_answers_refused all = earlier_answers_differs (due_at 13 three 0 (deeds 3 [] wrong_reads.earlier_answers) all).0

late_answer_differs : ◌≡◌ {A = Option Reply} None (Some (replies.Response 0)) → ⊥
late_answer_differs e = let never : ⊥ = cc in never

pub late_answer_refused : AreRepliesDue three 0 (deeds 3 [] wrong_reads.late_answer) → ⊥
late_answer_refused all = late_answer_differs (due_at 9 three 0 (deeds 3 [] wrong_reads.late_answer) all).0

short_too_early_differs : ◌≡◌ {A = Option Reply} None (Some (replies.Quorum halves.Read 1 2)) → ⊥
short_too_early_differs e = let never : ⊥ = cc in never

pub short_too_early_refused : AreRepliesDue three 1 (deeds 4 [] wrong_reads.short_too_early) → ⊥
short_too_early_refused all = short_too_early_differs (due_at 7 three 1 (deeds 4 [] wrong_reads.short_too_early) all).0

short_of_open_requests_differs : ◌≡◌ {A = Option Reply} None (Some (replies.Quorum halves.Read 1 2)) → ⊥
short_of_open_requests_differs e = let never : ⊥ = cc in never

pub short_of_open_requests_refused : AreRepliesDue three 1 (deeds 4 [] wrong_reads.short_of_open_requests) → ⊥
short_of_open_requests_refused all =
    short_of_open_requests_differs (due_at 8 three 1 (deeds 4 [] wrong_reads.short_of_open_requests) all).0

short_of_less_differs : ◌≡◌ {A = Option Reply} (Some (replies.Quorum halves.Read 1 2))
    (Some (replies.Quorum halves.Read 0 2)) → ⊥
short_of_less_differs e = let never : ⊥ = cc in never

pub short_of_less_refused : AreRepliesDue three 1 (deeds 4 [] wrong_reads.short_of_less) → ⊥
short_of_less_refused all = short_of_less_differs (due_at 9 three 1 (deeds 4 [] wrong_reads.short_of_less) all).0

conflict_with_another_differs : ◌≡◌ {A = Option Reply} (Some (replies.Conflict (tx 0 1) 1))
    (Some (replies.Conflict (tx 2 1) 1)) → ⊥
conflict_with_another_differs e =
    let same : ◌≡◌ {A = ℕ} (client_named (Some (replies.Conflict (tx 0 1) 1)))
    (client_named (Some (replies.Conflict (tx 2 1) 1))) = ap client_named e in
    let never : ⊥ = cc in never

pub conflict_with_another_refused : AreRepliesDue three 1 (deeds 4 [] wrong_reads.conflict_with_another) → ⊥
conflict_with_another_refused all =
    conflict_with_another_differs (due_at 7 three 1 (deeds 4 [] wrong_reads.conflict_with_another) all).0

granted_despite_a_clash_differs : ◌≡◌ {A = Option Reply} (Some (replies.Conflict (tx 0 1) 1))
    (Some (replies.Response 0)) → ⊥
granted_despite_a_clash_differs e = let never : ⊥ = cc in never

pub granted_despite_a_clash_refused : AreRepliesDue three 1 (deeds 4 [] wrong_reads.granted_despite_a_clash) → ⊥
granted_despite_a_clash_refused all =
    granted_despite_a_clash_differs (due_at 7 three 1 (deeds 4 [] wrong_reads.granted_despite_a_clash) all).0
