-- What a vote stands on: the record of a promise, which the site that voted keeps whatever falls.
use Rattle.std.specs.Prelude.{◌≡◌, ℕ}
use Rattle.qc_list.specs.Vocabulary.{In}
use Rattle.qc_entry.specs.declared.record.Prepared.{Prepared}
use Rattle.qc_msg.specs.declared.message.Envelope.{Envelope}
use Rattle.qc_msg.specs.declared.message.Message.TheVariants.{Request}
use Rattle.qc_msg.specs.declared.message.Want.TheVariants as wants
use Rattle.qc_msg.specs.declared.record.Record.TheVariants.{Prepare}
use Rattle.laws_refinement.specs.Net.{Net}

-- the site has the record of a promise of the transaction that the request of this number asked a promise of
pub record IsRecorded (net : Net) (a to : ℕ) : Type 0 where
  pub promise : Prepared
  pub stands : In (Prepare promise) (net.records a)
  pub request : Envelope
  pub sent : In request net.mail
  pub numbered : request.number ≡ to
  pub epoch : ℕ
  pub life : ℕ
  pub named : request.message ≡ Request promise.tx epoch life wants.Prepare
