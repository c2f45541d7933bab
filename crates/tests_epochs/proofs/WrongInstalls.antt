-- None of these is due: the administrator installs elsewhere than everywhere, or counts what doesn't.
use Rattle.std.proofs.Common.{◌≡◌, ℕ, [], Option, Some, None, ap}
use Rattle.qc_decl.specs.Vocabulary.{administrator}
use Rattle.qc_msg.specs.declared.reply.Reply.{Reply}
use Rattle.qc_msg.specs.Vocabulary.{deeds}
use Rattle.tests_epochs.specs.Declarations.{three_epochs}
use Rattle.tests_epochs.specs.Whole.{IsAdminDueIn}
use Rattle.tests_epochs.proofs.Places.{admin_due_at}
use Rattle.tests_epochs.proofs.Parts.{sites_installed}
use Rattle.qc_msg.specs.declared.reply.Reply.TheVariants as replies
use Rattle.tests_epochs.specs.WrongInstalls as wrong_installs

a_site_left_out_differs : ◌≡◌ {A = Option Reply} None (Some (replies.Moved 3 3)) → ⊥
a_site_left_out_differs e = let never : ⊥ = cc in never

pub a_site_left_out_refused : IsAdminDueIn three_epochs wrong_installs.a_site_left_out → ⊥
a_site_left_out_refused all =
    a_site_left_out_differs ((admin_due_at 12 three_epochs
    (deeds (administrator three_epochs) [] wrong_installs.a_site_left_out) all).0)

earlier_installs_count_differs : ◌≡◌ {A = Option Reply} None (Some (replies.Moved 7 7)) → ⊥
earlier_installs_count_differs e = let never : ⊥ = cc in never

pub earlier_installs_count_refused : IsAdminDueIn three_epochs wrong_installs.earlier_installs_count → ⊥
earlier_installs_count_refused all =
    earlier_installs_count_differs
    ((admin_due_at 30 three_epochs (deeds (administrator three_epochs) [] wrong_installs.earlier_installs_count) all).0)

an_answer_of_what_was_lost_differs : ◌≡◌ {A = ℕ} 3 7 → ⊥
an_answer_of_what_was_lost_differs e = let never : ⊥ = cc in never

pub an_answer_of_what_was_lost_refused : IsAdminDueIn three_epochs wrong_installs.an_answer_of_what_was_lost → ⊥
an_answer_of_what_was_lost_refused all =
    an_answer_of_what_was_lost_differs
    (ap sites_installed
    (admin_due_at 13 three_epochs (deeds (administrator three_epochs) [] wrong_installs.an_answer_of_what_was_lost)
    all).0)
