-- None of these is due: replies that aren't the first row's.
use Rattle.std.proofs.Common.{◌≡◌, ℕ, [], Option, Some, None, ap}
use Rattle.qc_decl.specs.Vocabulary.{three}
use Rattle.qc_msg.specs.declared.reply.Reply.{Reply}
use Rattle.qc_msg.specs.Vocabulary.{deeds}
use Rattle.qc_promise.specs.Vocabulary.{AreRepliesDue}
use Rattle.tests_histories.specs.Words.{tx}
use Rattle.tests_due.proofs.Places.{due_at, number_begun}
use Rattle.qc_msg.specs.declared.reply.Reply.TheVariants as replies
use Rattle.tests_due.specs.WrongReplies as wrong_replies

absent_differs : ◌≡◌ {A = Option Reply} (Some (replies.Response 0)) (Some replies.Absent) → ⊥
absent_differs e = let never : ⊥ = cc in never

pub absent_refused : AreRepliesDue three 0 (deeds 3 [] wrong_replies.absent) → ⊥
absent_refused all = absent_differs (due_at 7 three 0 (deeds 3 [] wrong_replies.absent) all).0

other_response_differs : ◌≡◌ {A = Option Reply} (Some (replies.Response 0)) (Some (replies.Response 1)) → ⊥
other_response_differs e = let never : ⊥ = cc in never

pub other_response_refused : AreRepliesDue three 0 (deeds 3 [] wrong_replies.other_response) → ⊥
other_response_refused all = other_response_differs (due_at 7 three 0 (deeds 3 [] wrong_replies.other_response) all).0

doomed_for_nothing_differs : ◌≡◌ {A = Option Reply} (Some (replies.Response 0)) (Some replies.Doomed) → ⊥
doomed_for_nothing_differs e = let never : ⊥ = cc in never

pub doomed_for_nothing_refused : AreRepliesDue three 0 (deeds 3 [] wrong_replies.doomed_for_nothing) → ⊥
doomed_for_nothing_refused all =
    doomed_for_nothing_differs (due_at 7 three 0 (deeds 3 [] wrong_replies.doomed_for_nothing) all).0

doomed_without_an_append_differs : ◌≡◌ {A = Option Reply} None (Some replies.Doomed) → ⊥
doomed_without_an_append_differs e = let never : ⊥ = cc in never

pub doomed_without_an_append_refused : AreRepliesDue three 1 (deeds 4 [] wrong_replies.doomed_without_an_append) → ⊥
doomed_without_an_append_refused all =
    doomed_without_an_append_differs (due_at 9 three 1 (deeds 4 [] wrong_replies.doomed_without_an_append) all).0

goes_on_though_doomed_differs : ◌≡◌ {A = Option Reply} (Some replies.Doomed) (Some (replies.Conflict (tx 0 1) 1)) → ⊥
goes_on_though_doomed_differs e = let never : ⊥ = cc in never

pub goes_on_though_doomed_refused : AreRepliesDue three 1 (deeds 4 [] wrong_replies.goes_on_though_doomed) → ⊥
goes_on_though_doomed_refused all =
    goes_on_though_doomed_differs (due_at 9 three 1 (deeds 4 [] wrong_replies.goes_on_though_doomed) all).0

too_long_at_one_differs : ◌≡◌ {A = Option Reply} (Some (replies.Response 0)) (Some replies.TooLong) → ⊥
too_long_at_one_differs e = let never : ⊥ = cc in never

pub too_long_at_one_refused : AreRepliesDue three 0 (deeds 3 [] wrong_replies.too_long_at_one) → ⊥
too_long_at_one_refused all =
    too_long_at_one_differs (due_at 7 three 0 (deeds 3 [] wrong_replies.too_long_at_one) all).0

told_twice_differs : ◌≡◌ {A = Option Reply} None (Some (replies.Response 0)) → ⊥
told_twice_differs e = let never : ⊥ = cc in never

pub told_twice_refused : AreRepliesDue three 0 (deeds 3 [] wrong_replies.told_twice) → ⊥
told_twice_refused all = told_twice_differs (due_at 8 three 0 (deeds 3 [] wrong_replies.told_twice) all).0

begins_twice_differs : ◌≡◌ {A = Option Reply} (Some (replies.Already (tx 0 1))) (Some (replies.Began (tx 0 2))) → ⊥
begins_twice_differs e = let never : ⊥ = cc in never

pub begins_twice_refused : AreRepliesDue three 0 (deeds 3 [] wrong_replies.begins_twice) → ⊥
begins_twice_refused all = begins_twice_differs (due_at 3 three 0 (deeds 3 [] wrong_replies.begins_twice) all).0

begins_at_two_differs : ◌≡◌ {A = Option Reply} (Some (replies.Began (tx 0 1))) (Some (replies.Began (tx 0 2))) → ⊥
begins_at_two_differs e =
    let same : ◌≡◌ {A = ℕ} (number_begun (Some (replies.Began (tx 0 1))))
    (number_begun (Some (replies.Began (tx 0 2)))) = ap number_begun e in
    let never : ⊥ = cc in never

pub begins_at_two_refused : AreRepliesDue three 0 (deeds 3 [] wrong_replies.begins_at_two) → ⊥
begins_at_two_refused all = begins_at_two_differs (due_at 1 three 0 (deeds 3 [] wrong_replies.begins_at_two) all).0

drops_nothing_differs : ◌≡◌ {A = Option Reply} (Some replies.NoTransaction) (Some replies.Dropped) → ⊥
drops_nothing_differs e = let never : ⊥ = cc in never

pub drops_nothing_refused : AreRepliesDue three 0 (deeds 3 [] wrong_replies.drops_nothing) → ⊥
drops_nothing_refused all = drops_nothing_differs (due_at 5 three 0 (deeds 3 [] wrong_replies.drops_nothing) all).0

forgets_its_transaction_differs : ◌≡◌ {A = Option Reply} (Some replies.Dropped) (Some replies.NoTransaction) → ⊥
forgets_its_transaction_differs e = let never : ⊥ = cc in never

pub forgets_its_transaction_refused : AreRepliesDue three 0 (deeds 3 [] wrong_replies.forgets_its_transaction) → ⊥
forgets_its_transaction_refused all =
    forgets_its_transaction_differs (due_at 3 three 0 (deeds 3 [] wrong_replies.forgets_its_transaction) all).0
