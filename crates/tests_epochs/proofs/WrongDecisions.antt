-- None of these is due: decisions of the administrator with another clock or other lines.
use Rattle.std.proofs.Common.{◌≡◌, ℕ, [], Option, Some, None, ap}
use Rattle.qc_decl.specs.Vocabulary.{administrator}
use Rattle.qc_msg.specs.declared.reply.Reply.{Reply}
use Rattle.qc_msg.specs.Vocabulary.{deeds}
use Rattle.tests_epochs.specs.Declarations.{three_epochs, two_objects}
use Rattle.tests_epochs.specs.Whole.{IsAdminDueIn}
use Rattle.tests_epochs.proofs.Places.{admin_due_at}
use Rattle.tests_epochs.proofs.Parts.{clock_decided, lines_decided}
use Rattle.qc_msg.specs.declared.reply.Reply.TheVariants as replies
use Rattle.tests_epochs.specs.WrongDecisions as wrong_decisions

a_clock_that_leaves_out_stamps_differs : ◌≡◌ {A = ℕ} 4 3 → ⊥
a_clock_that_leaves_out_stamps_differs e = let never : ⊥ = cc in never

pub a_clock_that_leaves_out_stamps_refused : IsAdminDueIn three_epochs wrong_decisions.a_clock_that_leaves_out_stamps
    → ⊥
a_clock_that_leaves_out_stamps_refused all =
    a_clock_that_leaves_out_stamps_differs
    (ap clock_decided
    (admin_due_at 7 three_epochs
    (deeds (administrator three_epochs) [] wrong_decisions.a_clock_that_leaves_out_stamps) all).0)

committed_lines_left_out_differs : ◌≡◌ {A = ℕ} 1 0 → ⊥
committed_lines_left_out_differs e = let never : ⊥ = cc in never

pub committed_lines_left_out_refused : IsAdminDueIn three_epochs wrong_decisions.committed_lines_left_out → ⊥
committed_lines_left_out_refused all =
    committed_lines_left_out_differs
    (ap lines_decided
    (admin_due_at 15 three_epochs (deeds (administrator three_epochs) [] wrong_decisions.committed_lines_left_out)
    all).0)

aborted_lines_merged_differs : ◌≡◌ {A = ℕ} 2 3 → ⊥
aborted_lines_merged_differs e = let never : ⊥ = cc in never

pub aborted_lines_merged_refused : IsAdminDueIn three_epochs wrong_decisions.aborted_lines_merged → ⊥
aborted_lines_merged_refused all =
    aborted_lines_merged_differs
    (ap lines_decided
    (admin_due_at 11 three_epochs (deeds (administrator three_epochs) [] wrong_decisions.aborted_lines_merged) all).0)

a_line_that_nobody_told_differs : ◌≡◌ {A = ℕ} 1 2 → ⊥
a_line_that_nobody_told_differs e = let never : ⊥ = cc in never

pub a_line_that_nobody_told_refused : IsAdminDueIn three_epochs wrong_decisions.a_line_that_nobody_told → ⊥
a_line_that_nobody_told_refused all =
    a_line_that_nobody_told_differs
    (ap lines_decided
    (admin_due_at 5 three_epochs (deeds (administrator three_epochs) [] wrong_decisions.a_line_that_nobody_told) all).0)

one_entry_of_a_transaction_differs : ◌≡◌ {A = ℕ} 2 1 → ⊥
one_entry_of_a_transaction_differs e = let never : ⊥ = cc in never

pub one_entry_of_a_transaction_refused : IsAdminDueIn two_objects wrong_decisions.one_entry_of_a_transaction → ⊥
one_entry_of_a_transaction_refused all =
    one_entry_of_a_transaction_differs
    (ap lines_decided
    (admin_due_at 9 two_objects (deeds (administrator two_objects) [] wrong_decisions.one_entry_of_a_transaction)
    all).0)

another_log_installed_differs : ◌≡◌ {A = Option Reply} None (Some (replies.Moved 3 7)) → ⊥
another_log_installed_differs e = let never : ⊥ = cc in never

pub another_log_installed_refused : IsAdminDueIn three_epochs wrong_decisions.another_log_installed → ⊥
another_log_installed_refused all =
    another_log_installed_differs
    ((admin_due_at 12 three_epochs (deeds (administrator three_epochs) [] wrong_decisions.another_log_installed) all).0)
