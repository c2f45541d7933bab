-- What messages to a site leave open there: a transaction that asked it to hold something, and whose end it wasn't told
-- since.
use Rattle.std.specs.Option.{option_map_or}
use Rattle.std.specs.Prelude.{ℕ, ◌&&◌, Bool, true, false, if◌then◌else◌, List, fold}
use Rattle.qc_msg.specs.declared.message.Envelope.{Envelope}
use Rattle.qc_msg.specs.declared.message.Message.{Message}
use Rattle.qc_msg.specs.declared.message.Want.{Want}
use Rattle.qc_msg.specs.declared.message.Want.TheVariants.{Append, Prepare, Read}
use Rattle.qc_promise.specs.Vocabulary.{is_final}
use Rattle.qc_stamp.specs.Vocabulary.{same_tx}
use Rattle.qc_stamp.specs.declared.stamp.TxId.{TxId}
use Rattle.laws_guarantees.specs.Arrives.{sent_to}
use Rattle.qc_msg.specs.Vocabulary.{Decided, Requested, decision_in, request_in}

-- what is granted to a Read or an Append is held; a Prepare asks for nothing more
abbrev pub asks_to_hold : Want → Bool
asks_to_hold (Read read) = true
asks_to_hold (Append object view own) = true
asks_to_hold Prepare = false

-- whether the transaction is open after one message more
abbrev pub open_said : TxId → Bool → Message → Bool
open_said tx before message =
    option_map_or (λ (q : Requested). if same_tx q.tx tx && asks_to_hold q.want then true else before)
    (request_in message)
    (option_map_or (λ (v : Decided). if same_tx v.tx tx && is_final v.verdict then false else before)
    (decision_in message) before)

-- whether it is open after these messages, in order
abbrev pub is_open : TxId → List Envelope → Bool
is_open tx ms = fold (λ (before : Bool) (e : Envelope). open_said tx before e.message) false ms

-- whether it is open at a site, after all that was sent to it
abbrev pub is_open_at : ℕ → TxId → List Envelope → Bool
is_open_at site tx ms = is_open tx (sent_to site ms)
