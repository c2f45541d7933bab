-- Which answers fit a request, by what the site was sent before it.
use Rattle.std.specs.Prelude.{MatchOption, ◌≡◌, ℕ, true, false, List, take}
use Rattle.std.specs.List.{AllByRecursion as Every}
use Rattle.qc_list.specs.Vocabulary.{In}
use Rattle.qc_msg.specs.declared.message.Answer.{Answer}
use Rattle.qc_msg.specs.declared.message.Answer.TheVariants as answers
use Rattle.qc_msg.specs.declared.message.Envelope.{Envelope}
use Rattle.qc_msg.specs.declared.message.Message.{Message}
use Rattle.qc_msg.specs.declared.message.Message.TheVariants as messages
use Rattle.qc_msg.specs.declared.message.Want.{Want}
use Rattle.qc_msg.specs.declared.message.Want.TheVariants.{Append, Prepare, Read}
use Rattle.qc_stamp.specs.Vocabulary.{same_tx}
use Rattle.qc_stamp.specs.declared.stamp.TxId.{TxId}
use Rattle.laws_guarantees.specs.Arrives.{sent_to}
use Rattle.laws_guarantees.specs.Open.{is_open}
use Rattle.qc_msg.specs.Vocabulary.{Answered, Clashing, answer_in, clash_in, granted_in}
use Rattle.qc_msg.specs.declared.payload.Grant.{Grant}

-- a Read or an Append is granted, or another transaction is in the way that these messages left open
abbrev pub FitsHold : List Envelope → TxId → Answer → Type 0
FitsHold ms tx answer =
    MatchOption (granted_in answer)
    (MatchOption (clash_in answer) ⊥ (λ (c : Clashing). (is_open c.holder ms ≡ true) × (same_tx c.holder tx ≡ false)))
    (λ (x : Grant). Unit {0})

-- a Prepare is answered by a promise, or nothing can be promised
abbrev pub FitsPromise : Answer → Type 0
FitsPromise (answers.Granted grant) = ⊥
FitsPromise (answers.Clash holder inv event) = ⊥
FitsPromise (answers.Closed epoch) = ⊥
FitsPromise (answers.Behind epoch) = ⊥
FitsPromise (answers.Restarted life) = ⊥
FitsPromise answers.Stale = Unit {0}
FitsPromise answers.Fault = ⊥
FitsPromise (answers.Yes clock) = Unit {0}
FitsPromise (answers.Shut snapshot) = ⊥
FitsPromise answers.Installed = ⊥
FitsPromise (answers.Answered verdict) = ⊥

abbrev pub Fits : List Envelope → TxId → Want → Answer → Type 0
Fits ms tx (Read read) answer = FitsHold ms tx answer
Fits ms tx (Append object view own) answer = FitsHold ms tx answer
Fits ms tx Prepare answer = FitsPromise answer

-- what was sent to a site before the message of this number
abbrev pub sent_before : ℕ → ℕ → List Envelope → List Envelope
sent_before site number ms = sent_to site (take number ms)

-- the answer of a site to the request of a number: that was sent to it, and the answer fits
pub record IsAnswered (ms : List Envelope) (site number : ℕ) (answer : Answer) : Type 0 where
  pub request : Envelope
  pub among : In request ms
  pub number_is : request.number ≡ number
  pub site_is : request.to ≡ site
  pub tx : TxId
  pub epoch : ℕ
  pub life : ℕ
  pub want : Want
  pub is : request.message ≡ messages.Request tx epoch life want
  pub fits : Fits (sent_before site number ms) tx want answer

abbrev pub IfAnswered : List Envelope → ℕ → Message → Type 0
IfAnswered ms from message =
    MatchOption (answer_in message) (Unit {0}) (λ (a : Answered). IsAnswered ms from a.to a.answer)

-- each answer in the mail fits its request
abbrev pub AnswersFit : List Envelope → Type 0
AnswersFit ms = Every (λ (e : Envelope). IfAnswered ms e.from e.message) ms
