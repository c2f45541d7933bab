-- None of these is due: the administrator sends what nothing calls for.
use Rattle.std.proofs.Common.{◌≡◌, Bool, true, false, []}
use Rattle.qc_decl.specs.Vocabulary.{administrator}
use Rattle.qc_msg.specs.Vocabulary.{deeds}
use Rattle.tests_epochs.specs.Declarations.{three_epochs}
use Rattle.tests_epochs.specs.Whole.{IsAdminDueIn}
use Rattle.tests_epochs.proofs.Places.{admin_due_at}
use Rattle.tests_epochs.specs.WrongSends as wrong_sends

another_log_differs : ◌≡◌ {A = Bool} false true → ⊥
another_log_differs e = let never : ⊥ = cc in never

pub another_log_refused : IsAdminDueIn three_epochs wrong_sends.another_log → ⊥
another_log_refused all =
    another_log_differs
    (admin_due_at 6 three_epochs (deeds (administrator three_epochs) [] wrong_sends.another_log) all)

not_decided_differs : ◌≡◌ {A = Bool} false true → ⊥
not_decided_differs e = let never : ⊥ = cc in never

pub not_decided_refused : IsAdminDueIn three_epochs wrong_sends.not_decided → ⊥
not_decided_refused all =
    not_decided_differs (admin_due_at 12 three_epochs (deeds (administrator three_epochs) [] wrong_sends.not_decided)
    all)
