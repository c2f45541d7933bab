-- None of these is due: the administrator's other deeds as he rises, and while he is down.
use Rattle.std.proofs.Common.{◌≡◌, ℕ, [], ◌∷◌, Option, Some, None, ap}
use Rattle.qc_decl.specs.Vocabulary.{administrator}
use Rattle.qc_msg.specs.declared.reply.Reply.{Reply}
use Rattle.qc_msg.specs.Vocabulary.{deeds}
use Rattle.qc_msg.specs.declared.payload.EpochStart.{EpochStart}
use Rattle.tests_histories.specs.Words.{line}
use Rattle.tests_due.proofs.SitePlaces.{count_records, count_sends}
use Rattle.tests_epochs.specs.Declarations.{three_epochs}
use Rattle.tests_epochs.specs.Whole.{IsAdminDueIn}
use Rattle.tests_epochs.proofs.Places.{admin_due_at}
use Rattle.tests_epochs.proofs.Parts.{sites_closed}
use Rattle.qc_msg.specs.declared.reply.Reply.TheVariants as replies
use Rattle.tests_epochs.specs.WrongRises as wrong_rises

a_lost_decision_installed_differs : ◌≡◌ {A = Option Reply} None (Some (replies.Moved 0 7)) → ⊥
a_lost_decision_installed_differs e = let never : ⊥ = cc in never

pub a_lost_decision_installed_refused : IsAdminDueIn three_epochs wrong_rises.a_lost_decision_installed → ⊥
a_lost_decision_installed_refused all =
    a_lost_decision_installed_differs
    ((admin_due_at 16 three_epochs (deeds (administrator three_epochs) [] wrong_rises.a_lost_decision_installed) all).0)

a_shut_of_before_his_fall_differs : ◌≡◌ {A = Option EpochStart} None
    (Some (record { epoch = 2; clock = 1; lines = (line 1 0 1 1 0 3 ∷ []) })) → ⊥
a_shut_of_before_his_fall_differs e = let never : ⊥ = cc in never

pub a_shut_of_before_his_fall_refused : IsAdminDueIn three_epochs wrong_rises.a_shut_of_before_his_fall → ⊥
a_shut_of_before_his_fall_refused all =
    a_shut_of_before_his_fall_differs
    ((admin_due_at 14 three_epochs (deeds (administrator three_epochs) [] wrong_rises.a_shut_of_before_his_fall) all).0)

closed_before_his_fall_differs : ◌≡◌ {A = ℕ} 0 3 → ⊥
closed_before_his_fall_differs e = let never : ⊥ = cc in never

pub closed_before_his_fall_refused : IsAdminDueIn three_epochs wrong_rises.closed_before_his_fall → ⊥
closed_before_his_fall_refused all =
    closed_before_his_fall_differs
    (ap sites_closed
    (admin_due_at 23 three_epochs (deeds (administrator three_epochs) [] wrong_rises.closed_before_his_fall) all).0)

installs_as_he_rises_differs : ◌≡◌ {A = ℕ} 3 0 → ⊥
installs_as_he_rises_differs e = let never : ⊥ = cc in never

pub installs_as_he_rises_refused : IsAdminDueIn three_epochs wrong_rises.installs_as_he_rises → ⊥
installs_as_he_rises_refused all =
    installs_as_he_rises_differs
    (ap count_sends
    (admin_due_at 14 three_epochs (deeds (administrator three_epochs) [] wrong_rises.installs_as_he_rises) all))

no_life_written_differs : ◌≡◌ {A = ℕ} 0 1 → ⊥
no_life_written_differs e = let never : ⊥ = cc in never

pub no_life_written_refused : IsAdminDueIn three_epochs wrong_rises.no_life_written → ⊥
no_life_written_refused all =
    no_life_written_differs (ap count_records
    (admin_due_at 14 three_epochs (deeds (administrator three_epochs) [] wrong_rises.no_life_written) all))

the_first_epoch_again_differs : ◌≡◌ {A = Option Reply} None (Some (replies.Order 1)) → ⊥
the_first_epoch_again_differs e = let never : ⊥ = cc in never

pub the_first_epoch_again_refused : IsAdminDueIn three_epochs wrong_rises.the_first_epoch_again → ⊥
the_first_epoch_again_refused all =
    the_first_epoch_again_differs
    ((admin_due_at 25 three_epochs (deeds (administrator three_epochs) [] wrong_rises.the_first_epoch_again) all).0)

refused_while_down_differs : ◌≡◌ {A = Option Reply} (Some replies.Down) (Some (replies.Order 2)) → ⊥
refused_while_down_differs e = let never : ⊥ = cc in never

pub refused_while_down_refused : IsAdminDueIn three_epochs wrong_rises.refused_while_down → ⊥
refused_while_down_refused all =
    refused_while_down_differs
    ((admin_due_at 15 three_epochs (deeds (administrator three_epochs) [] wrong_rises.refused_while_down) all).0)
