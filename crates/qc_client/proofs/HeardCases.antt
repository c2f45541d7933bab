-- The cases of a message that comes to a client.
use Rattle.std.specs.Prelude.{[], ℕ, ◌∷◌, Some}
use Rattle.qc_decl.specs.declared.declaration.Declaration.{Declaration}
use Rattle.qc_client.specs.declared.client.Client.{Client}
use Rattle.qc_client.specs.Vocabulary.{ClientMove, answered, heard, moved, outcome_of}
use Rattle.qc_msg.specs.declared.message.Answer.{Answer}
use Rattle.qc_msg.specs.declared.message.Answer.TheVariants.{Answered}
use Rattle.qc_msg.specs.declared.message.Message.{Message}
use Rattle.qc_msg.specs.Vocabulary.{quiet, sending}
use Rattle.qc_stamp.specs.declared.stamp.TxId.{TxId}
use Rattle.qc_msg.specs.declared.message.Message.TheVariants as messages

pub heard_cases : (decl : Declaration) (c : Client) (from number : ℕ) (P : Message → ClientMove → Type 0)
    → ((m : Message) → P m (moved c quiet))
    → ((to : ℕ) (answer : Answer) → P (messages.Answer to answer) (answered decl c to (Some answer)))
    → ((tx : TxId) → P (messages.Inquiry tx)
    (moved c (sending (record { to = from; message = messages.Decision tx (outcome_of c tx) } ∷ []))))
    → ((tx : TxId) → P (messages.Ask tx)
    (moved c (sending (record { to = from; message = messages.Answer number (Answered (outcome_of c tx)) } ∷ []))))
    → (m : Message) → P m (heard decl c from number m)
heard_cases decl c from number P silent takes inquired asked (messages.Request tx epoch life want) = silent _
heard_cases decl c from number P silent takes inquired asked (messages.Answer to answer) = takes to answer
heard_cases decl c from number P silent takes inquired asked (messages.Decision tx verdict) = silent _
heard_cases decl c from number P silent takes inquired asked (messages.Inquiry tx) = inquired tx
heard_cases decl c from number P silent takes inquired asked (messages.Ask tx) = asked tx
heard_cases decl c from number P silent takes inquired asked (messages.Close epoch) = silent _
heard_cases decl c from number P silent takes inquired asked (messages.Install start) = silent _
