-- The transactions whose promises stand at a site and name something, one deed after another.
use Rattle.std.specs.Option.{option_map_or}
use Rattle.std.specs.Prelude.{if◌then◌else◌, List}
use Rattle.qc_stamp.specs.declared.stamp.TxId.{TxId}
use Rattle.qc_msg.specs.declared.message.Message.{Message}
use Rattle.qc_msg.specs.declared.step.Input.{Input}
use Rattle.qc_msg.specs.declared.step.Input.TheVariants as inputs
use Rattle.qc_msg.specs.Vocabulary.{Deed, Falls, Rises, Sends, Takes, Tells, Writes, Decided, decision_in}
use Rattle.qc_promise.specs.Vocabulary.{is_aborted}
use Rattle.qc_text.specs.Holders.{holders_with, without_holder}

-- after a message: one that is aborted isn't promised any more
abbrev pub promised_by : List TxId → Message → List TxId
promised_by txs message =
    option_map_or (λ (v : Decided). if is_aborted v.verdict then without_holder txs v.tx else txs) (decision_in message)
    txs

abbrev pub promised_given : List TxId → Input → List TxId
promised_given txs (inputs.Called command) = txs
promised_given txs (inputs.Got envelope) = promised_by txs envelope.message
promised_given txs (inputs.Lost number) = txs

abbrev pub promised_at : List TxId → Deed → List TxId
promised_at txs (Takes given) = promised_given txs given
promised_at txs (Writes written) = holders_with txs written
promised_at txs (Sends number to message) = txs
promised_at txs (Tells reply) = txs
promised_at txs (Falls cause pending) = txs
promised_at txs (Rises records) = txs
