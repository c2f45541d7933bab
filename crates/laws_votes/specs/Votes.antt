-- In which life of its site a vote was cast: a site begins a life with each record of a rise.
use Rattle.std.specs.Prelude.{◌≡◌, ◌≤◌, ◌⊎◌, ℕ, List}
use Rattle.qc_list.specs.Vocabulary.{In}
use Rattle.qc_msg.specs.Vocabulary.{Entry, mail}
use Rattle.qc_msg.specs.declared.message.Envelope.{Envelope}
use Rattle.qc_msg.specs.declared.message.Message.TheVariants.{Request}
use Rattle.qc_msg.specs.declared.message.Want.TheVariants.{Prepare}
use Rattle.laws_reach.specs.Vocabulary.{records_of}
use Rattle.qc_recover.specs.Vocabulary.{kept_by}
use Rattle.qc_stamp.specs.declared.stamp.TxId.{TxId}

-- the life that a site's records give it after a history
abbrev pub life_at : List Entry → ℕ → ℕ
life_at h site = (kept_by (records_of h site)).life

-- the request of this number asked a site for a promise, and named none of its lives, or none before the one that its
-- records gave it after these first entries
pub record IsCastSince (early h : List Entry) (site to : ℕ) : Type 0 where
  pub request : Envelope
  pub sent : In request (mail h)
  pub numbered : request.number ≡ to
  pub tx : TxId
  pub epoch : ℕ
  pub life : ℕ
  pub named : request.message ≡ Request tx epoch life Prepare
  pub low : (life ≡ 0) ⊎ (life_at early site ≤ life)
