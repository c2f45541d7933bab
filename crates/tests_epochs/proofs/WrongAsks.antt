-- None of these is due: the administrator asks other clients, or at another time.
use Rattle.std.proofs.Common.{◌≡◌, [], ◌∷◌, Option, Some, None}
use Rattle.qc_decl.specs.Vocabulary.{administrator}
use Rattle.qc_msg.specs.Vocabulary.{deeds}
use Rattle.qc_msg.specs.declared.payload.EpochStart.{EpochStart}
use Rattle.tests_histories.specs.Words.{line}
use Rattle.tests_epochs.specs.Declarations.{three_epochs}
use Rattle.tests_epochs.specs.Whole.{IsAdminDueIn}
use Rattle.tests_epochs.proofs.Places.{admin_due_at}
use Rattle.tests_epochs.specs.WrongAsks as wrong_asks

asked_too_early_differs : ◌≡◌ {A = Option EpochStart} None (Some (record { epoch = 2; clock = 4; lines = [] })) → ⊥
asked_too_early_differs e = let never : ⊥ = cc in never

pub asked_too_early_refused : IsAdminDueIn three_epochs wrong_asks.asked_too_early → ⊥
asked_too_early_refused all =
    asked_too_early_differs ((admin_due_at 7 three_epochs
    (deeds (administrator three_epochs) [] wrong_asks.asked_too_early) all).0)

another_client_asked_differs : ◌≡◌ {A = Option EpochStart} None (Some (record { epoch = 2; clock = 4; lines = [] })) → ⊥
another_client_asked_differs e = let never : ⊥ = cc in never

pub another_client_asked_refused : IsAdminDueIn three_epochs wrong_asks.another_client_asked → ⊥
another_client_asked_refused all =
    another_client_asked_differs
    ((admin_due_at 7 three_epochs (deeds (administrator three_epochs) [] wrong_asks.another_client_asked) all).0)

asked_out_of_order_differs : ◌≡◌ {A = Option EpochStart} None
    (Some (record { epoch = 2; clock = 2; lines = (line 1 2 1 1 0 3 ∷ line 2 1 1 1 0 2 ∷ []) })) → ⊥
asked_out_of_order_differs e = let never : ⊥ = cc in never

pub asked_out_of_order_refused : IsAdminDueIn three_epochs wrong_asks.asked_out_of_order → ⊥
asked_out_of_order_refused all =
    asked_out_of_order_differs
    ((admin_due_at 11 three_epochs (deeds (administrator three_epochs) [] wrong_asks.asked_out_of_order) all).0)
