-- None of these is due: the administrator closes otherwise than the next epoch's round asks.
use Rattle.std.proofs.Common.{◌≡◌, [], ◌∷◌, Option, Some, None}
use Rattle.qc_decl.specs.Vocabulary.{administrator}
use Rattle.qc_msg.specs.declared.reply.Reply.{Reply}
use Rattle.qc_msg.specs.Vocabulary.{deeds}
use Rattle.qc_msg.specs.declared.payload.EpochStart.{EpochStart}
use Rattle.tests_histories.specs.Words.{line}
use Rattle.tests_epochs.specs.Declarations.{three_epochs}
use Rattle.tests_epochs.specs.Whole.{IsAdminDueIn}
use Rattle.tests_epochs.proofs.Places.{admin_due_at}
use Rattle.qc_msg.specs.declared.reply.Half.TheVariants as halves
use Rattle.qc_msg.specs.declared.reply.Reply.TheVariants as replies
use Rattle.tests_epochs.specs.WrongCloses as wrong_closes

a_close_of_another_epoch_differs : ◌≡◌ {A = Option Reply} None (Some (replies.Quorum halves.Close 0 2)) → ⊥
a_close_of_another_epoch_differs e = let never : ⊥ = cc in never

pub a_close_of_another_epoch_refused : IsAdminDueIn three_epochs wrong_closes.a_close_of_another_epoch → ⊥
a_close_of_another_epoch_refused all =
    a_close_of_another_epoch_differs
    ((admin_due_at 7 three_epochs (deeds (administrator three_epochs) [] wrong_closes.a_close_of_another_epoch) all).0)

a_site_asked_twice_differs : ◌≡◌ {A = Option EpochStart} None
    (Some (record { epoch = 2; clock = 1; lines = (line 1 0 1 1 0 3 ∷ []) })) → ⊥
a_site_asked_twice_differs e = let never : ⊥ = cc in never

pub a_site_asked_twice_refused : IsAdminDueIn three_epochs wrong_closes.a_site_asked_twice → ⊥
a_site_asked_twice_refused all =
    a_site_asked_twice_differs
    ((admin_due_at 5 three_epochs (deeds (administrator three_epochs) [] wrong_closes.a_site_asked_twice) all).0)

another_site_asked_differs : ◌≡◌ {A = Option EpochStart} None
    (Some (record { epoch = 2; clock = 1; lines = (line 1 0 1 1 0 3 ∷ []) })) → ⊥
another_site_asked_differs e = let never : ⊥ = cc in never

pub another_site_asked_refused : IsAdminDueIn three_epochs wrong_closes.another_site_asked → ⊥
another_site_asked_refused all =
    another_site_asked_differs
    ((admin_due_at 5 three_epochs (deeds (administrator three_epochs) [] wrong_closes.another_site_asked) all).0)
