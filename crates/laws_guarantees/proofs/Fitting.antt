-- A site's answer fits the request that it took.
use Rattle.std.proofs.Common.{◌≡◌, ℕ, List, None, refl}
use Rattle.std.specs.List.{AllByRecursion as Every}
use Rattle.qc_stamp.specs.declared.stamp.TxId.{TxId}
use Rattle.qc_decl.specs.declared.declaration.Declaration.{Declaration}
use Rattle.qc_msg.specs.declared.message.Answer.{Answer}
use Rattle.qc_msg.specs.declared.message.Envelope.{Envelope}
use Rattle.qc_msg.specs.declared.message.Message.{Message}
use Rattle.qc_msg.specs.declared.message.Message.TheVariants as messages
use Rattle.qc_msg.specs.declared.message.Outcome.TheVariants.{Aborted, Active, Committed}
use Rattle.qc_msg.specs.declared.message.Want.{Want}
use Rattle.qc_msg.specs.declared.message.Want.TheVariants.{Append, Prepare, Read}
use Rattle.qc_msg.specs.declared.step.Input.TheVariants as inputs
use Rattle.qc_msg.specs.declared.turn.Posting.{Posting}
use Rattle.qc_site.specs.Vocabulary.{SiteMove, SiteState, fault_of, grants, passed, relation_at, site_at, site_takes}
use Rattle.qc_site.specs.Vocabulary.{finishes}
use Rattle.laws_atomic.proofs.FirstSites.{IsAtFirst}
use Rattle.qc_site.proofs.RequestCases.{append_cases, join_cases, prepare_cases, read_cases, request_cases}
use Rattle.laws_guarantees.specs.Vocabulary.{Fits, IsFirst}
use Rattle.laws_guarantees.proofs.FirstSites.{first_free}
use Rattle.laws_guarantees.proofs.Held.{AreOpen, IsInTheWay, append_way, read_way}
use Rattle.std.specs.Prelude.{MatchOption}
use Rattle.qc_msg.specs.Vocabulary.{Answered, Requested, answer_in, request_in}
use Rattle.laws_guarantees.proofs.SiteCases.{site_cases}
use Rattle.qc_msg.specs.declared.message.Outcome.{Outcome}

-- an answer, of a site that took these messages, to the message of this number

abbrev pub FitsMessage : List Envelope → Message → Answer → Type 0
FitsMessage ms m answer = MatchOption (request_in m) ⊥ (λ (q : Requested). Fits ms q.tx q.want answer)

abbrev pub IfAnswers : List Envelope → ℕ → Message → Message → Type 0
IfAnswers ms number m sent = MatchOption (answer_in sent) (Unit {0})
    (λ (a : Answered). (a.to ≡ number) × FitsMessage ms m a.answer)

abbrev pub AnswersTo : List Envelope → ℕ → Message → SiteMove → Type 0
AnswersTo ms number m move = Every (λ (p : Posting). IfAnswers ms number m p.message) move.turn.sends

module _ (decl : Declaration) (ms : List Envelope) (n : ℕ) (s : SiteState) (first : IsAtFirst n s)
    (open_ones : AreOpen ms s.held) (from number : ℕ) where
  granted : (tx : TxId) (epoch life : ℕ) (want : Want)
      → AnswersTo ms number (messages.Request tx epoch life want) (grants decl s from number tx want)
  granted tx epoch life (Read read) =
      read_cases (AnswersTo ms number (messages.Request tx epoch life (Read read))) decl s from number tx read
      (λ free. ((refl, tt), tt))
      (λ c clash. let w : IsInTheWay ms tx c =
      read_way (relation_at decl read.object) ms s.held tx read.object read.inv c open_ones clash in
      ((refl, (w.is_open, w.another)), (tt, tt)))
  granted tx epoch life (Append object view own) =
      append_cases (AnswersTo ms number (messages.Request tx epoch life (Append object view own))) decl s from number tx
      object view own (λ free. ((refl, tt), tt))
      (λ c clash. let w : IsInTheWay ms tx c =
      append_way (relation_at decl object) ms s.held tx own c open_ones clash in
      ((refl, (w.is_open, w.another)), (tt, tt)))
  granted tx epoch life Prepare =
      prepare_cases (AnswersTo ms number (messages.Request tx epoch life Prepare)) s from number tx ((refl, tt), tt)
      (λ held stands. ((refl, tt), tt)) (λ held made. ((refl, tt), tt))

  decided : (tx : TxId) (verdict : Outcome)
      → AnswersTo ms number (messages.Decision tx verdict) (finishes s tx verdict)
  decided tx (Committed stamp) =
      join_cases (AnswersTo ms number (messages.Decision tx (Committed stamp))) s tx stamp (λ none. tt) (λ p some. tt)
  decided tx Aborted = tt
  decided tx Active = tt

  at : (m : Message) → IsFirst m → AnswersTo ms number m (site_at decl s from number m)
  at m = site_cases decl s from number (λ m move. IsFirst m → AnswersTo ms number m move) (λ m is. tt)
      (λ tx epoch life want is. request_cases (AnswersTo ms number (messages.Request tx epoch life want)) decl s from
      number tx epoch life want tt
      (λ fault refused. absurd (let free : fault_of s epoch life ≡ None = first_free n s epoch life first is.0 is.1 in
      let never : ⊥ = cc in never)) (λ free. granted tx epoch life want))
      (λ tx verdict is. decided tx verdict) (λ epoch never. absurd never) (λ epoch clock log never. absurd never) m

-- the site once its clock has passed
pub fits_on : (decl : Declaration) (ms : List Envelope) (n : ℕ) (s : SiteState) (e : Envelope) → IsAtFirst n s
    → AreOpen ms s.held → IsFirst e.message → AnswersTo ms e.number e.message (site_takes decl s (inputs.Got e))
fits_on decl ms n s e first open_ones is =
    at decl ms n (passed s e.message) (record
    { number_is = first.number_is; life_is = first.life_is; epoch_is = first.epoch_is; is_open = first.is_open })
    open_ones e.from e.number e.message is
