-- What is read of a message, case by case: it is a request, an answer, a Decision or a question, or none of these.
use Rattle.std.specs.Prelude.{Option, Some, None}
use Rattle.qc_stamp.specs.declared.stamp.TxId.{TxId}
use Rattle.qc_msg.specs.declared.message.Message.{Message}
use Rattle.qc_msg.specs.declared.message.Message.TheVariants as messages
use Rattle.qc_msg.specs.Vocabulary.{Answered, Decided, Requested, answer_in, decision_in, inquiry_in, request_in}

pub message_cases : (P : Message → Option Requested → Option Answered → Option Decided → Option TxId → Type 0)
    → ((q : Requested) → P (messages.Request q.tx q.epoch q.life q.want) (Some q) None None None)
    → ((a : Answered) → P (messages.Answer a.to a.answer) None (Some a) None None)
    → ((v : Decided) → P (messages.Decision v.tx v.verdict) None None (Some v) None)
    → ((tx : TxId) → P (messages.Inquiry tx) None None None (Some tx))
    → ((m : Message) → P m None None None None) → (m : Message)
    → P m (request_in m) (answer_in m) (decision_in m) (inquiry_in m)
message_cases P requests answers decides inquires rest (messages.Request tx epoch life want) =
    requests (record { tx = tx; epoch = epoch; life = life; want = want })
message_cases P requests answers decides inquires rest (messages.Answer to answer) =
    answers (record { to = to; answer = answer })
message_cases P requests answers decides inquires rest (messages.Decision tx verdict) =
    decides (record { tx = tx; verdict = verdict })
message_cases P requests answers decides inquires rest (messages.Inquiry tx) = inquires tx
message_cases P requests answers decides inquires rest (messages.Ask tx) = rest (messages.Ask tx)
message_cases P requests answers decides inquires rest (messages.Close epoch) = rest (messages.Close epoch)
message_cases P requests answers decides inquires rest (messages.Install start) =
    rest (messages.Install start)
