-- None of these is due: doubts of the administrator, and a decision in doubt.
use Rattle.std.proofs.Common.{◌≡◌, ℕ, [], ◌∷◌, Option, Some, None, ap}
use Rattle.qc_decl.specs.Vocabulary.{administrator}
use Rattle.qc_msg.specs.declared.reply.Reply.{Reply}
use Rattle.qc_msg.specs.Vocabulary.{deeds}
use Rattle.qc_msg.specs.declared.payload.EpochStart.{EpochStart}
use Rattle.tests_histories.specs.Words.{line, tx}
use Rattle.tests_epochs.specs.Declarations.{three_epochs}
use Rattle.tests_epochs.specs.Whole.{IsAdminDueIn}
use Rattle.tests_epochs.proofs.Places.{admin_due_at}
use Rattle.tests_epochs.proofs.Parts.{doubt_told}
use Rattle.qc_msg.specs.declared.reply.Reply.TheVariants as replies
use Rattle.tests_epochs.specs.WrongDoubts as wrong_doubts

doubt_of_what_is_answered_differs : ◌≡◌ {A = Option Reply} None (Some (replies.InDoubt (tx 0 4) 0)) → ⊥
doubt_of_what_is_answered_differs e = let never : ⊥ = cc in never

pub doubt_of_what_is_answered_refused : IsAdminDueIn three_epochs wrong_doubts.doubt_of_what_is_answered → ⊥
doubt_of_what_is_answered_refused all =
    doubt_of_what_is_answered_differs
    ((admin_due_at 7 three_epochs (deeds (administrator three_epochs) [] wrong_doubts.doubt_of_what_is_answered) all).0)

doubt_at_another_site_differs : ◌≡◌ {A = ℕ} 0 1 → ⊥
doubt_at_another_site_differs e = let never : ⊥ = cc in never

pub doubt_at_another_site_refused : IsAdminDueIn three_epochs wrong_doubts.doubt_at_another_site → ⊥
doubt_at_another_site_refused all =
    doubt_at_another_site_differs
    (ap doubt_told
    (admin_due_at 7 three_epochs (deeds (administrator three_epochs) [] wrong_doubts.doubt_at_another_site) all).0)

doubt_of_another_promise_differs : ◌≡◌ {A = ℕ} 17 32 → ⊥
doubt_of_another_promise_differs e = let never : ⊥ = cc in never

pub doubt_of_another_promise_refused : IsAdminDueIn three_epochs wrong_doubts.doubt_of_another_promise → ⊥
doubt_of_another_promise_refused all =
    doubt_of_another_promise_differs
    (ap doubt_told
    (admin_due_at 11 three_epochs (deeds (administrator three_epochs) [] wrong_doubts.doubt_of_another_promise) all).0)

doubt_before_it_is_asked_differs : ◌≡◌ {A = Option Reply} None (Some (replies.InDoubt (tx 0 1) 0)) → ⊥
doubt_before_it_is_asked_differs e = let never : ⊥ = cc in never

pub doubt_before_it_is_asked_refused : IsAdminDueIn three_epochs wrong_doubts.doubt_before_it_is_asked → ⊥
doubt_before_it_is_asked_refused all =
    doubt_before_it_is_asked_differs
    ((admin_due_at 5 three_epochs (deeds (administrator three_epochs) [] wrong_doubts.doubt_before_it_is_asked) all).0)

decided_in_doubt_differs : ◌≡◌ {A = Option EpochStart} None
    (Some (record { epoch = 2; clock = 1; lines = (line 1 0 1 1 0 3 ∷ []) })) → ⊥
decided_in_doubt_differs e = let never : ⊥ = cc in never

pub decided_in_doubt_refused : IsAdminDueIn three_epochs wrong_doubts.decided_in_doubt → ⊥
decided_in_doubt_refused all =
    decided_in_doubt_differs ((admin_due_at 7 three_epochs
    (deeds (administrator three_epochs) [] wrong_doubts.decided_in_doubt) all).0)
