-- None of these is due: requests that no round wants, replies of what isn't declared, and untold replies.
use Rattle.std.proofs.Common.{◌≡◌, [], Option, Some, None}
use Rattle.qc_decl.specs.Vocabulary.{three}
use Rattle.qc_msg.specs.declared.reply.Reply.{Reply}
use Rattle.qc_msg.specs.Vocabulary.{deeds}
use Rattle.qc_promise.specs.Vocabulary.{AreRepliesDue}
use Rattle.tests_histories.specs.Words.{tx}
use Rattle.tests_due.proofs.Places.{due_at}
use Rattle.qc_msg.specs.declared.reply.Half.TheVariants as halves
use Rattle.qc_msg.specs.declared.reply.Reply.TheVariants as replies
use Rattle.tests_due.specs.WrongAsks as wrong_asks

conflict_of_a_site_too_many_differs : ◌≡◌ {A = Option Reply} (Some (replies.Response 0))
    (Some (replies.Conflict (tx 1 1) 2)) → ⊥
conflict_of_a_site_too_many_differs e = let never : ⊥ = cc in never

pub conflict_of_a_site_too_many_refused : AreRepliesDue three 0 (deeds 3 [] wrong_asks.conflict_of_a_site_too_many) → ⊥
conflict_of_a_site_too_many_refused all =
    conflict_of_a_site_too_many_differs (due_at 9 three 0 (deeds 3 [] wrong_asks.conflict_of_a_site_too_many) all).0

closed_by_a_site_too_many_differs : ◌≡◌ {A = Option Reply} (Some (replies.Response 0)) (Some (replies.Closed 2 2)) → ⊥
closed_by_a_site_too_many_differs e = let never : ⊥ = cc in never

pub closed_by_a_site_too_many_refused : AreRepliesDue three 0 (deeds 3 [] wrong_asks.closed_by_a_site_too_many) → ⊥
closed_by_a_site_too_many_refused all =
    closed_by_a_site_too_many_differs (due_at 9 three 0 (deeds 3 [] wrong_asks.closed_by_a_site_too_many) all).0

out_of_order_differs : ◌≡◌ {A = Option Reply} None (Some (replies.Response 0)) → ⊥
out_of_order_differs e = let never : ⊥ = cc in never

pub out_of_order_refused : AreRepliesDue three 0 (deeds 3 [] wrong_asks.out_of_order) → ⊥
out_of_order_refused all = out_of_order_differs (due_at 7 three 0 (deeds 3 [] wrong_asks.out_of_order) all).0

waits_for_a_site_too_many_differs : ◌≡◌ {A = Option Reply} (Some (replies.Response 0)) None → ⊥
waits_for_a_site_too_many_differs e = let never : ⊥ = cc in never

pub waits_for_a_site_too_many_refused : AreRepliesDue three 0 (deeds 3 [] wrong_asks.waits_for_a_site_too_many) → ⊥
waits_for_a_site_too_many_refused all =
    waits_for_a_site_too_many_differs (due_at 8 three 0 (deeds 3 [] wrong_asks.waits_for_a_site_too_many) all).0

begin_untold_differs : ◌≡◌ {A = Option Reply} (Some (replies.Began (tx 0 1))) None → ⊥
begin_untold_differs e = let never : ⊥ = cc in never

pub begin_untold_refused : AreRepliesDue three 0 (deeds 3 [] wrong_asks.begin_untold) → ⊥
begin_untold_refused all = begin_untold_differs (due_at 1 three 0 (deeds 3 [] wrong_asks.begin_untold) all).0

refusal_untold_differs : ◌≡◌ {A = Option Reply} (Some (replies.Quorum halves.Read 1 2)) None → ⊥
refusal_untold_differs e = let never : ⊥ = cc in never

pub refusal_untold_refused : AreRepliesDue three 1 (deeds 4 [] wrong_asks.refusal_untold) → ⊥
refusal_untold_refused all = refusal_untold_differs (due_at 9 three 1 (deeds 4 [] wrong_asks.refusal_untold) all).0

response_without_a_plan_differs : ◌≡◌ {A = Option Reply} None (Some (replies.Response 0)) → ⊥
response_without_a_plan_differs e = let never : ⊥ = cc in never

pub response_without_a_plan_refused : AreRepliesDue three 0 (deeds 3 [] wrong_asks.response_without_a_plan) → ⊥
response_without_a_plan_refused all =
    response_without_a_plan_differs (due_at 13 three 0 (deeds 3 [] wrong_asks.response_without_a_plan) all).0

absent_without_a_table_differs : ◌≡◌ {A = Option Reply} None (Some replies.Absent) → ⊥
absent_without_a_table_differs e = let never : ⊥ = cc in never

pub absent_without_a_table_refused : AreRepliesDue three 0 (deeds 3 [] wrong_asks.absent_without_a_table) → ⊥
absent_without_a_table_refused all =
    absent_without_a_table_differs (due_at 3 three 0 (deeds 3 [] wrong_asks.absent_without_a_table) all).0
