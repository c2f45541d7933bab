-- What messages of a net end, ask and grant.
use Rattle.std.proofs.Common.{◌≡◌, ℕ, List, ◌++◌, Some, ap}
use Rattle.qc_stamp.specs.declared.stamp.TxId.{TxId}
use Rattle.qc_list.specs.Vocabulary.{In}
use Rattle.qc_list.proofs.Members.{In-first}
use Rattle.qc_msg.specs.declared.message.Answer.TheVariants as answers
use Rattle.qc_msg.specs.declared.message.Envelope.{Envelope}
use Rattle.qc_msg.specs.declared.message.Message.{Message}
use Rattle.qc_msg.specs.declared.message.Message.TheVariants as messages
use Rattle.qc_msg.specs.declared.message.Want.{Want}
use Rattle.qc_msg.specs.declared.payload.Grant.{Grant}
use Rattle.laws_refinement.specs.Vocabulary.{IsRequest}
use Rattle.laws_guarantees.proofs.SiteMoves.{EndsBy, IsFull}
use Rattle.std.specs.Prelude.{MatchOption, option_map}
use Rattle.qc_msg.specs.Vocabulary.{Requested, request_in}

-- a final Decision on the transaction was sent
pub record WasEnded (mail : List Envelope) (tx : TxId) : Type 0 where
  pub envelope : Envelope
  pub sent : In envelope mail
  pub ends : EndsBy envelope.message tx

pub ended_more : (mail more : List Envelope) (tx : TxId) → WasEnded mail tx → WasEnded (mail ++ more) tx
ended_more mail more tx e = record { envelope = e.envelope; sent = In-first e.envelope mail more e.sent; ends = e.ends }

-- each Append that was sent has own lines
abbrev pub IsFullMessage : Message → Type 0
IsFullMessage m = MatchOption (request_in m) (Unit {0}) (λ (q : Requested). IsFull q.want)

abbrev pub AreFullMessages : List Envelope → Type 0
AreFullMessages mail = (e : Envelope) → In e mail → IsFullMessage e.message

-- the site granted the request of this number, which was of this transaction
pub record IsGrantedBy (mail : List Envelope) (site : ℕ) (tx : TxId) : Type 0 where
  pub answer : Envelope
  pub sent : In answer mail
  pub from : answer.from ≡ site
  pub number : ℕ
  pub grant : Grant
  pub grants : answer.message ≡ messages.Answer number (answers.Granted grant)
  pub want : Want
  pub asked : IsRequest mail number site tx want

-- the parts of a request

pub same_request : (t u : TxId) (e l f k : ℕ) (w v : Want) → messages.Request t e l w ≡ messages.Request u f k v
    → (t ≡ u) × (w ≡ v)
same_request t u e l f k w v same =
    let names : Some t ≡ Some u =
    ap (λ (m : Message). option_map (λ (q : Requested). q.tx) (request_in m)) same in
    let wants : Some w ≡ Some v =
    ap (λ (m : Message). option_map (λ (q : Requested). q.want) (request_in m)) same in
    ((let is : t ≡ u = cc in is), (let is : w ≡ v = cc in is))
