-- None of these is due: what the administrator makes of the sites that closed.
use Rattle.std.proofs.Common.{◌≡◌, ℕ, [], ◌∷◌, Option, Some, None, ap}
use Rattle.qc_decl.specs.Vocabulary.{administrator}
use Rattle.qc_msg.specs.declared.reply.Reply.{Reply}
use Rattle.qc_msg.specs.Vocabulary.{deeds}
use Rattle.qc_msg.specs.declared.payload.EpochStart.{EpochStart}
use Rattle.tests_histories.specs.Words.{line}
use Rattle.tests_epochs.specs.Declarations.{three_epochs}
use Rattle.tests_epochs.specs.Whole.{IsAdminDueIn}
use Rattle.tests_epochs.proofs.Places.{admin_due_at}
use Rattle.tests_epochs.proofs.Parts.{half_need}
use Rattle.qc_msg.specs.declared.reply.Half.TheVariants as halves
use Rattle.qc_msg.specs.declared.reply.Reply.TheVariants as replies
use Rattle.tests_epochs.specs.WrongRounds as wrong_rounds

decided_twice_differs : ◌≡◌ {A = Option EpochStart} None
    (Some (record { epoch = 2; clock = 1; lines = (line 1 0 1 1 0 3 ∷ []) })) → ⊥
decided_twice_differs e = let never : ⊥ = cc in never

pub decided_twice_refused : IsAdminDueIn three_epochs wrong_rounds.decided_twice → ⊥
decided_twice_refused all =
    decided_twice_differs ((admin_due_at 14 three_epochs
    (deeds (administrator three_epochs) [] wrong_rounds.decided_twice) all).0)

decided_by_too_few_differs : ◌≡◌ {A = Option EpochStart} None (Some (record { epoch = 2; clock = 0; lines = [] })) → ⊥
decided_by_too_few_differs e = let never : ⊥ = cc in never

pub decided_by_too_few_refused : IsAdminDueIn three_epochs wrong_rounds.decided_by_too_few → ⊥
decided_by_too_few_refused all =
    decided_by_too_few_differs
    ((admin_due_at 7 three_epochs (deeds (administrator three_epochs) [] wrong_rounds.decided_by_too_few) all).0)

decided_by_another_plan_differs : ◌≡◌ {A = Option EpochStart} None
    (Some (record { epoch = 3; clock = 1; lines = (line 1 0 1 1 0 3 ∷ []) })) → ⊥
decided_by_another_plan_differs e = let never : ⊥ = cc in never

pub decided_by_another_plan_refused : IsAdminDueIn three_epochs wrong_rounds.decided_by_another_plan → ⊥
decided_by_another_plan_refused all =
    decided_by_another_plan_differs
    ((admin_due_at 19 three_epochs (deeds (administrator three_epochs) [] wrong_rounds.decided_by_another_plan) all).0)

a_shut_of_an_earlier_command_differs : ◌≡◌ {A = Option EpochStart} None
    (Some (record { epoch = 2; clock = 1; lines = (line 1 0 1 1 0 3 ∷ []) })) → ⊥
a_shut_of_an_earlier_command_differs e = let never : ⊥ = cc in never

pub a_shut_of_an_earlier_command_refused : IsAdminDueIn three_epochs wrong_rounds.a_shut_of_an_earlier_command → ⊥
a_shut_of_an_earlier_command_refused all =
    a_shut_of_an_earlier_command_differs
    ((admin_due_at 15 three_epochs (deeds (administrator three_epochs) [] wrong_rounds.a_shut_of_an_earlier_command)
    all).0)

short_before_all_are_asked_differs : ◌≡◌ {A = Option Reply} None (Some (replies.Quorum halves.Close 0 2)) → ⊥
short_before_all_are_asked_differs e = let never : ⊥ = cc in never

pub short_before_all_are_asked_refused : IsAdminDueIn three_epochs wrong_rounds.short_before_all_are_asked → ⊥
short_before_all_are_asked_refused all =
    short_before_all_are_asked_differs
    ((admin_due_at 5 three_epochs (deeds (administrator three_epochs) [] wrong_rounds.short_before_all_are_asked)
    all).0)

short_of_another_weight_differs : ◌≡◌ {A = ℕ} 2 3 → ⊥
short_of_another_weight_differs e = let never : ⊥ = cc in never

pub short_of_another_weight_refused : IsAdminDueIn three_epochs wrong_rounds.short_of_another_weight → ⊥
short_of_another_weight_refused all =
    short_of_another_weight_differs
    (ap half_need
    (admin_due_at 7 three_epochs (deeds (administrator three_epochs) [] wrong_rounds.short_of_another_weight) all).0)

fault_of_nothing_differs : ◌≡◌ {A = Option Reply} None (Some replies.Fault) → ⊥
fault_of_nothing_differs e = let never : ⊥ = cc in never

pub fault_of_nothing_refused : IsAdminDueIn three_epochs wrong_rounds.fault_of_nothing → ⊥
fault_of_nothing_refused all =
    fault_of_nothing_differs ((admin_due_at 5 three_epochs
    (deeds (administrator three_epochs) [] wrong_rounds.fault_of_nothing) all).0)
