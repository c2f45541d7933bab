-- None of these is due: the administrator tells what he moved, or refuses, otherwise than he did.
use Rattle.std.proofs.Common.{◌≡◌, ℕ, [], Option, Some, None, ap}
use Rattle.qc_decl.specs.Vocabulary.{administrator}
use Rattle.qc_msg.specs.declared.reply.Reply.{Reply}
use Rattle.qc_msg.specs.Vocabulary.{deeds}
use Rattle.tests_epochs.specs.Declarations.{three_epochs}
use Rattle.tests_epochs.specs.Whole.{IsAdminDueIn}
use Rattle.tests_epochs.proofs.Places.{admin_due_at}
use Rattle.tests_epochs.proofs.Parts.{sites_closed, sites_installed}
use Rattle.qc_msg.specs.declared.reply.Reply.TheVariants as replies
use Rattle.tests_epochs.specs.WrongMoves as wrong_moves

another_site_closed_differs : ◌≡◌ {A = ℕ} 3 5 → ⊥
another_site_closed_differs e = let never : ⊥ = cc in never

pub another_site_closed_refused : IsAdminDueIn three_epochs wrong_moves.another_site_closed → ⊥
another_site_closed_refused all =
    another_site_closed_differs
    (ap sites_closed
    (admin_due_at 12 three_epochs (deeds (administrator three_epochs) [] wrong_moves.another_site_closed) all).0)

a_closed_site_left_out_differs : ◌≡◌ {A = ℕ} 3 1 → ⊥
a_closed_site_left_out_differs e = let never : ⊥ = cc in never

pub a_closed_site_left_out_refused : IsAdminDueIn three_epochs wrong_moves.a_closed_site_left_out → ⊥
a_closed_site_left_out_refused all =
    a_closed_site_left_out_differs
    (ap sites_closed
    (admin_due_at 12 three_epochs (deeds (administrator three_epochs) [] wrong_moves.a_closed_site_left_out) all).0)

an_install_unheard_of_differs : ◌≡◌ {A = ℕ} 3 7 → ⊥
an_install_unheard_of_differs e = let never : ⊥ = cc in never

pub an_install_unheard_of_refused : IsAdminDueIn three_epochs wrong_moves.an_install_unheard_of → ⊥
an_install_unheard_of_refused all =
    an_install_unheard_of_differs
    (ap sites_installed
    (admin_due_at 12 three_epochs (deeds (administrator three_epochs) [] wrong_moves.an_install_unheard_of) all).0)

moved_before_the_answers_differs : ◌≡◌ {A = Option Reply} None (Some (replies.Moved 3 0)) → ⊥
moved_before_the_answers_differs e = let never : ⊥ = cc in never

pub moved_before_the_answers_refused : IsAdminDueIn three_epochs wrong_moves.moved_before_the_answers → ⊥
moved_before_the_answers_refused all =
    moved_before_the_answers_differs
    ((admin_due_at 9 three_epochs (deeds (administrator three_epochs) [] wrong_moves.moved_before_the_answers) all).0)

moved_without_closing_differs : ◌≡◌ {A = Option Reply} None (Some (replies.Moved 0 7)) → ⊥
moved_without_closing_differs e = let never : ⊥ = cc in never

pub moved_without_closing_refused : IsAdminDueIn three_epochs wrong_moves.moved_without_closing → ⊥
moved_without_closing_refused all =
    moved_without_closing_differs
    ((admin_due_at 1 three_epochs (deeds (administrator three_epochs) [] wrong_moves.moved_without_closing) all).0)

the_next_epoch_refused_differs : ◌≡◌ {A = Option Reply} None (Some (replies.Order 1)) → ⊥
the_next_epoch_refused_differs e = let never : ⊥ = cc in never

pub the_next_epoch_refused_refused : IsAdminDueIn three_epochs wrong_moves.the_next_epoch_refused → ⊥
the_next_epoch_refused_refused all =
    the_next_epoch_refused_differs
    ((admin_due_at 1 three_epochs (deeds (administrator three_epochs) [] wrong_moves.the_next_epoch_refused) all).0)
