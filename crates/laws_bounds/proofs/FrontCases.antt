-- What a front end sends is a request of its transaction or its verdict: what holds of these holds of all that it
-- sends.
use Rattle.std.specs.Prelude.{ℕ}
use Rattle.qc_decl.specs.declared.declaration.Declaration.{Declaration}
use Rattle.qc_front.specs.declared.front.Front.{Front}
use Rattle.qc_front.specs.Requests.{IsRequestOf, IsSent, IsVerdictOf}
use Rattle.qc_msg.specs.declared.message.Message.{Message}
use Rattle.qc_msg.specs.declared.message.Message.TheVariants as messages
use Rattle.qc_msg.specs.declared.message.Outcome.{Outcome}
use Rattle.qc_msg.specs.declared.message.Want.{Want}
use Rattle.qc_stamp.specs.declared.stamp.TxId.{TxId}

pub sent_cases : (decl : Declaration) (before after : Front) (to : ℕ) (P : Message → Type 0)
    → ((tx : TxId) (epoch life : ℕ) (want : Want) → IsRequestOf decl after to tx epoch life want
    → P (messages.Request tx epoch life want))
    → ((tx : TxId) (verdict : Outcome) → IsVerdictOf before to tx verdict → P (messages.Decision tx verdict))
    → (message : Message) → IsSent decl before after to message → P message
sent_cases decl before after to P request decision (messages.Request tx epoch life want) is =
    request tx epoch life want is
sent_cases decl before after to P request decision (messages.Answer number answer) is = absurd is
sent_cases decl before after to P request decision (messages.Decision tx verdict) is = decision tx verdict is
sent_cases decl before after to P request decision (messages.Inquiry tx) is = absurd is
sent_cases decl before after to P request decision (messages.Ask tx) is = absurd is
sent_cases decl before after to P request decision (messages.Close epoch) is = absurd is
sent_cases decl before after to P request decision (messages.Install start) is = absurd is
