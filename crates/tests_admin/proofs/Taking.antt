-- What his calls ask holds of him after each of them.
use Rattle.std.proofs.Common.{◌≡◌, ℕ, None, Result, Ok, Err, IfOk, OnOk, sym, ap, ◌∙◌, subst}
use Rattle.std.specs.declared.alloc.AllocError.{AllocError}
use Rattle.qc_decl.specs.declared.declaration.Declaration.{Declaration}
use Rattle.qc_decl.specs.Vocabulary.{IsAccepted}
use Rattle.qc_msg.specs.declared.message.Envelope.{Envelope}
use Rattle.qc_msg.specs.declared.message.Message.{Message}
use Rattle.qc_msg.specs.declared.step.Command.{Command}
use Rattle.qc_msg.specs.declared.step.Input.TheVariants as inputs
use Rattle.qc_msg.specs.declared.turn.Turn.{Turn}
use Rattle.qc_epoch.specs.Vocabulary.{Admin, AdminMove, answered, called, heard, moved}
use Rattle.qc_admin.specs.Vocabulary.{AdminFits, MessageFits}
use Rattle.qc_admin.proofs.Fitting.{takes_fit}

-- what he becomes fits
became : (move : AdminMove) (after : Admin) (result : Result Turn AllocError) → AdminFits move.admin
    → IfOk result (λ turn. move ≡ moved after turn) → OnOk result (AdminFits after)
became move after (Err e) fits is = tt
became move after (Ok turn) fits is = subst AdminFits (ap (λ (m : AdminMove). m.admin) is) fits

pub after_command : (decl : Declaration) (m after : Admin) (command : Command) (result : Result Turn AllocError)
    → IsAccepted decl → AdminFits m
    → IfOk result (λ turn. called decl m command ≡ moved after turn) → OnOk result (AdminFits after)
after_command decl m after command result accepted fits is =
    became (called decl m command) after result (takes_fit decl m (inputs.Called command) accepted fits tt) is

pub after_message : (decl : Declaration) (m after : Admin) (message : Message) (result : Result Turn AllocError)
    → IsAccepted decl → AdminFits m → MessageFits message
    → IfOk result (λ turn. heard decl m message ≡ moved after turn) → OnOk result (AdminFits after)
after_message decl m after message result accepted fits told is =
    became (heard decl m message) after result
    (takes_fit decl m (inputs.Got (record { number = 0; from = 0; to = 0; message = message })) accepted fits told)
    is

pub after_loss : (decl : Declaration) (m after : Admin) (number : ℕ) (result : Result Turn AllocError) → IsAccepted decl
    → AdminFits m
    → IfOk result (λ turn. answered decl m number None ≡ moved after turn) → OnOk result (AdminFits after)
after_loss decl m after number result accepted fits is =
    became (answered decl m number None) after result (takes_fit decl m (inputs.Lost number) accepted fits tt) is
