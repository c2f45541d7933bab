-- None of these is due: decisions of the administrator as his disk fails, and of one who rose.
use Rattle.std.proofs.Common.{◌≡◌, ℕ, [], ◌∷◌, Option, Some, None, ap}
use Rattle.qc_decl.specs.Vocabulary.{administrator}
use Rattle.qc_msg.specs.declared.reply.Reply.{Reply}
use Rattle.qc_msg.specs.Vocabulary.{deeds}
use Rattle.qc_msg.specs.declared.payload.EpochStart.{EpochStart}
use Rattle.tests_histories.specs.Words.{line}
use Rattle.tests_epochs.specs.Declarations.{three_epochs}
use Rattle.tests_epochs.specs.Whole.{IsAdminDueIn}
use Rattle.tests_epochs.proofs.Places.{admin_due_at}
use Rattle.tests_epochs.proofs.Parts.{lines_pending}
use Rattle.qc_msg.specs.declared.reply.Reply.TheVariants as replies
use Rattle.tests_epochs.specs.WrongFalls as wrong_falls

fault_though_decided_differs : ◌≡◌ {A = Option Reply} None (Some replies.Fault) → ⊥
fault_though_decided_differs e = let never : ⊥ = cc in never

pub fault_though_decided_refused : IsAdminDueIn three_epochs wrong_falls.fault_though_decided → ⊥
fault_though_decided_refused all =
    fault_though_decided_differs
    ((admin_due_at 6 three_epochs (deeds (administrator three_epochs) [] wrong_falls.fault_though_decided) all).0)

fault_before_a_fall_differs : ◌≡◌ {A = Option EpochStart}
    (Some (record { epoch = 2; clock = 1; lines = (line 1 0 1 1 0 3 ∷ []) })) None → ⊥
fault_before_a_fall_differs e = let never : ⊥ = cc in never

pub fault_before_a_fall_refused : IsAdminDueIn three_epochs wrong_falls.fault_before_a_fall → ⊥
fault_before_a_fall_refused all =
    fault_before_a_fall_differs
    (((admin_due_at 6 three_epochs (deeds (administrator three_epochs) [] wrong_falls.fault_before_a_fall) all).1).0)

fault_and_no_fall_differs : ◌≡◌ {A = Option Reply} None (Some replies.Fault) → ⊥
fault_and_no_fall_differs e = let never : ⊥ = cc in never

pub fault_and_no_fall_refused : IsAdminDueIn three_epochs wrong_falls.fault_and_no_fall → ⊥
fault_and_no_fall_refused all =
    fault_and_no_fall_differs
    ((admin_due_at 5 three_epochs (deeds (administrator three_epochs) [] wrong_falls.fault_and_no_fall) all).0)

another_record_pending_differs : ◌≡◌ {A = ℕ} 1 0 → ⊥
another_record_pending_differs e = let never : ⊥ = cc in never

pub another_record_pending_refused : IsAdminDueIn three_epochs wrong_falls.another_record_pending → ⊥
another_record_pending_refused all =
    another_record_pending_differs
    (ap lines_pending
    ((admin_due_at 5 three_epochs (deeds (administrator three_epochs) [] wrong_falls.another_record_pending) all).1).1)

decided_again_though_it_rose_differs : ◌≡◌ {A = Option EpochStart} None
    (Some (record { epoch = 2; clock = 1; lines = (line 1 0 1 1 0 3 ∷ []) })) → ⊥
decided_again_though_it_rose_differs e = let never : ⊥ = cc in never

pub decided_again_though_it_rose_refused : IsAdminDueIn three_epochs wrong_falls.decided_again_though_it_rose → ⊥
decided_again_though_it_rose_refused all =
    decided_again_though_it_rose_differs
    ((admin_due_at 14 three_epochs (deeds (administrator three_epochs) [] wrong_falls.decided_again_though_it_rose)
    all).0)

decided_again_after_a_rise_differs : ◌≡◌ {A = Option EpochStart} None
    (Some (record { epoch = 2; clock = 1; lines = (line 1 0 1 1 0 3 ∷ []) })) → ⊥
decided_again_after_a_rise_differs e = let never : ⊥ = cc in never

pub decided_again_after_a_rise_refused : IsAdminDueIn three_epochs wrong_falls.decided_again_after_a_rise → ⊥
decided_again_after_a_rise_refused all =
    decided_again_after_a_rise_differs
    ((admin_due_at 17 three_epochs (deeds (administrator three_epochs) [] wrong_falls.decided_again_after_a_rise)
    all).0)
