-- In which epoch a transaction asks sites: the one that its requests name.
use Rattle.std.specs.Prelude.{◌≡◌, ℕ, List}
use Rattle.qc_list.specs.Vocabulary.{In}
use Rattle.qc_msg.specs.Vocabulary.{Entry, mail}
use Rattle.qc_msg.specs.declared.message.Envelope.{Envelope}
use Rattle.qc_msg.specs.declared.message.Message.TheVariants.{Request}
use Rattle.qc_msg.specs.declared.message.Want.{Want}
use Rattle.qc_stamp.specs.declared.stamp.TxId.{TxId}

-- a request went out for the transaction, and names the epoch
pub record AsksIn (h : List Entry) (tx : TxId) (epoch : ℕ) : Type 0 where
  pub request : Envelope
  pub sent : In request (mail h)
  pub life : ℕ
  pub want : Want
  pub is : request.message ≡ Request tx epoch life want
