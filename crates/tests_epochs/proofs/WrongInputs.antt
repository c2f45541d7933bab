-- None of these is due: what the administrator takes while something else is due.
use Rattle.std.proofs.Common.{◌≡◌, [], ◌∷◌, Option, Some, None}
use Rattle.qc_decl.specs.Vocabulary.{administrator}
use Rattle.qc_msg.specs.declared.reply.Reply.{Reply}
use Rattle.qc_msg.specs.declared.step.Command.{Command}
use Rattle.qc_msg.specs.Vocabulary.{deeds}
use Rattle.qc_msg.specs.declared.payload.EpochStart.{EpochStart}
use Rattle.tests_histories.specs.Words.{line}
use Rattle.tests_epochs.specs.Declarations.{three_epochs}
use Rattle.tests_epochs.specs.Whole.{IsAdminDueIn}
use Rattle.tests_epochs.proofs.Places.{admin_due_at}
use Rattle.qc_msg.specs.declared.step.Command.TheVariants as commands
use Rattle.qc_msg.specs.declared.reply.Reply.TheVariants as replies
use Rattle.tests_epochs.specs.WrongInputs as wrong_inputs

a_reply_untold_differs : ◌≡◌ {A = Option Reply} (Some (replies.Moved 3 7)) None → ⊥
a_reply_untold_differs e = let never : ⊥ = cc in never

pub a_reply_untold_refused : IsAdminDueIn three_epochs wrong_inputs.a_reply_untold → ⊥
a_reply_untold_refused all =
    a_reply_untold_differs ((admin_due_at 12 three_epochs
    (deeds (administrator three_epochs) [] wrong_inputs.a_reply_untold) all).0)

a_decision_unwritten_differs : ◌≡◌ {A = Option EpochStart} None
    (Some (record { epoch = 2; clock = 1; lines = (line 1 0 1 1 0 3 ∷ []) })) → ⊥
a_decision_unwritten_differs e = let never : ⊥ = cc in never

pub a_decision_unwritten_refused : IsAdminDueIn three_epochs wrong_inputs.a_decision_unwritten → ⊥
a_decision_unwritten_refused all =
    a_decision_unwritten_differs
    ((admin_due_at 8 three_epochs (deeds (administrator three_epochs) [] wrong_inputs.a_decision_unwritten) all).1)

called_before_its_reply_differs : ◌≡◌ {A = Option Command} (Some (commands.Epoch 2)) None → ⊥
called_before_its_reply_differs e = let never : ⊥ = cc in never

pub called_before_its_reply_refused : IsAdminDueIn three_epochs wrong_inputs.called_before_its_reply → ⊥
called_before_its_reply_refused all =
    called_before_its_reply_differs
    ((admin_due_at 3 three_epochs (deeds (administrator three_epochs) [] wrong_inputs.called_before_its_reply) all).2)
