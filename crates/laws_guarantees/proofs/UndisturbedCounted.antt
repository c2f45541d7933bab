-- In each undisturbed run what counts for a request is an answer that fits it; and a Clash names a transaction that is
-- open elsewhere.
use Rattle.std.proofs.Common.{[], ◌≡◌, ℕ, ◌+◌, ◌-◌, ◌≤◌, inl, inr, Bool, true, false, List, ◌∷◌, Option, Some, None}
use Rattle.std.proofs.Common.{option_map, refl, sym, ap, ◌∙◌, subst, arith}
use Rattle.qc_list.specs.Vocabulary.{In}
use Rattle.qc_list.proofs.Members.{every-In}
use Rattle.qc_stamp.specs.declared.stamp.TxId.{TxId}
use Rattle.qc_stamp.specs.Vocabulary.{same_tx}
use Rattle.qc_core.specs.Vocabulary.{IsLawful}
use Rattle.qc_decl.specs.Vocabulary.{IsAccepted, is_client}
use Rattle.qc_decl.specs.declared.declaration.Declaration.{Declaration}
use Rattle.qc_msg.specs.declared.message.Answer.{Answer}
use Rattle.qc_msg.specs.declared.message.Envelope.{Envelope}
use Rattle.qc_msg.specs.declared.message.Message.{Message}
use Rattle.qc_msg.specs.declared.message.Message.TheVariants as messages
use Rattle.qc_msg.specs.declared.message.Want.{Want}
use Rattle.qc_msg.specs.declared.message.Want.TheVariants.{Append, Prepare, Read}
use Rattle.qc_msg.specs.Vocabulary.{Entry, deeds, mail, Clashing, clash_in, granted_in}
use Rattle.qc_msg.specs.declared.payload.Grant.{Grant}
use Rattle.qc_script.specs.Vocabulary.{Runs}
use Rattle.qc_script.specs.declared.script.Script.{Script}
use Rattle.laws_turns.specs.Vocabulary.{AsksDeclared}
use Rattle.laws_turns.proofs.Numbered.{AreNumbered, run_numbered}
use Rattle.qc_promise.specs.Vocabulary.{ClientRequest, Current, account, new_account}
use Rattle.laws_guarantees.specs.Vocabulary.{Fits, FitsHold, FitsPromise, IfAnswered, IsAnswered, IsUndisturbed}
use Rattle.laws_guarantees.specs.Vocabulary.{begun_by, sent_before}
use Rattle.laws_guarantees.proofs.Accounts.{HasGrounds, WasSent, WasTaken}
use Rattle.laws_guarantees.proofs.AnswersLater.{number_from}
use Rattle.laws_guarantees.proofs.AnswerRuns.{run_answered}
use Rattle.laws_guarantees.proofs.Clear.{run_clear}
use Rattle.laws_guarantees.proofs.OpenElsewhere.{IsElsewhere}
use Rattle.laws_guarantees.proofs.RequestGrounds.{has_grounds}
use Rattle.laws_guarantees.proofs.Mailed.{sent_as, sent_mail}
use Rattle.laws_guarantees.proofs.NoLosses.{lost_from, run_no_loss}
use Rattle.std.specs.Prelude.{MatchOption}
use Rattle.laws_guarantees.specs.Open.{is_open}
use Rattle.qc_stamp.proofs.Orders.{same_tx_itself}
use Rattle.laws_atomic.proofs.Heard.{took_sent}

-- one message has one number

same_number : (k : ℕ) (ms : List Envelope) (x y : Envelope) → AreNumbered k ms → In x ms → In y ms → x.number ≡ y.number
    → x ≡ y
same_number k [] x y are never there same = absurd never
same_number k (z ∷ ms) x y are (inl first) (inl second) same = first ∙ sym second
same_number k (z ∷ ms) x y are (inl first) (inr later) same =
    let here : x.number ≡ k = ap (λ (v : Envelope). v.number) first ∙ are.0 in
    let low : k + 1 ≤ y.number = (number_from (k + 1) ms y are.1 later).0 in
    absurd (omega arith)
same_number k (z ∷ ms) x y are (inr later) (inl second) same =
    let here : y.number ≡ k = ap (λ (v : Envelope). v.number) second ∙ are.0 in
    let low : k + 1 ≤ x.number = (number_from (k + 1) ms x are.1 later).0 in
    absurd (omega arith)
same_number k (z ∷ ms) x y are (inr first) (inr second) same = same_number (k + 1) ms x y are.1 first second same

message_is : (x y : Envelope) (m : Message) → x.message ≡ m → x ≡ y → m ≡ y.message
message_is x y m is same = sym is ∙ ap (λ (e : Envelope). e.message) same

fits_moved : (ms : List Envelope) (answer : Answer) (tx u : TxId) (e f l k : ℕ) (w v : Want)
    → messages.Request tx e l w ≡ messages.Request u f k v → Fits ms tx w answer → Fits ms u v answer
fits_moved ms answer tx u e f l k w v same fit =
    let its : tx ≡ u = cc in
    let wants : w ≡ v = cc in
    subst (λ (y : TxId). Fits ms y v answer) its (subst (λ (z : Want). Fits ms tx z answer) wants fit)

-- what counts for a request

abbrev pub GoodHold : Declaration → ℕ → List Entry → Answer → Type 0
GoodHold decl a h answer = MatchOption (granted_in answer)
    (MatchOption (clash_in answer) ⊥ (λ (c : Clashing). IsElsewhere decl a h c.holder)) (λ (g : Grant). Unit {0})

abbrev pub GoodAnswer : Declaration → ℕ → List Entry → Want → Answer → Type 0
GoodAnswer decl a h (Read read) answer = GoodHold decl a h answer
GoodAnswer decl a h (Append object view own) answer = GoodHold decl a h answer
GoodAnswer decl a h Prepare answer = FitsPromise answer

-- nothing yet, or a good answer
abbrev pub GoodTaken : Declaration → ℕ → List Entry → Want → Option (Option Answer) → Type 0
GoodTaken decl a h want None = Unit {0}
GoodTaken decl a h want (Some None) = ⊥
GoodTaken decl a h want (Some (Some answer)) = GoodAnswer decl a h want answer

module _ (decl : Declaration) (script : Script) (accepted : IsAccepted decl) (asks : AsksDeclared decl script)
    (calm : IsUndisturbed script) (h : List Entry) (open_inputs : List Bool)
    (run : Runs (IsLawful decl) decl script h open_inputs)
    (a : ℕ) (named : is_client decl a ≡ true) (q : ClientRequest) (among : In q (account decl a h).requests) where
  grounds : HasGrounds (deeds a [] h) (account decl a h)
  grounds = has_grounds decl (a - decl.sites) (deeds a [] h)

  sent : (t : Current) × ((account decl a h).current ≡ Some t) × WasSent (deeds a [] h) q t.tx
  sent = grounds.sent q among

  request : In (sent_as a q.number q.site (messages.Request sent.0.tx sent.2.epoch q.life q.want)) (mail h)
  request = sent_mail a [] h q.number q.site (messages.Request sent.0.tx sent.2.epoch q.life q.want) sent.2.is

  answered : (answer : Answer) → q.taken ≡ Some (Some answer)
      → Fits (sent_before q.site q.number (mail h)) sent.0.tx q.want answer
  answered answer is =
      let w : WasTaken (deeds a [] h) q.number answer = grounds.taken q answer among is in
      let there : In w.envelope (mail h) = took_sent a [] h w.envelope w.taken in
      let fit : IfAnswered (mail h) w.envelope.from w.envelope.message =
      every-In (λ (e : Envelope). IfAnswered (mail h) e.from e.message) w.envelope (mail h)
      (run_answered decl script calm h open_inputs run) there in
      let r : IsAnswered (mail h) w.envelope.from q.number answer =
      subst (IfAnswered (mail h) w.envelope.from) w.is fit in
      let same : r.request ≡ sent_as a q.number q.site (messages.Request sent.0.tx sent.2.epoch q.life q.want) =
      same_number 0 (mail h) r.request
      (sent_as a q.number q.site (messages.Request sent.0.tx sent.2.epoch q.life q.want))
      (run_numbered (IsLawful decl) decl script h open_inputs run) r.among request r.number_is in
      let site : w.envelope.from ≡ q.site = sym r.site_is ∙ ap (λ (e : Envelope). e.to) same in
      subst (λ (k : ℕ). Fits (sent_before k q.number (mail h)) sent.0.tx q.want answer) site
      (fits_moved (sent_before w.envelope.from q.number (mail h)) answer r.tx sent.0.tx r.epoch sent.2.epoch r.life
      q.life r.want q.want
      (message_is r.request (sent_as a q.number q.site (messages.Request sent.0.tx sent.2.epoch q.life q.want))
      (messages.Request r.tx r.epoch r.life r.want) r.is same) r.fits)

  hold_good : (answer : Answer) → FitsHold (sent_before q.site q.number (mail h)) sent.0.tx answer
      → GoodHold decl a h answer
  hold_good answer = by (granted_in answer) (clash_in answer)
    where
      by : (g : Option Grant) (c : Option Clashing) → MatchOption g (MatchOption c ⊥ (λ (c : Clashing).
          (is_open c.holder (sent_before q.site q.number (mail h)) ≡ true) × (same_tx c.holder sent.0.tx ≡ false)))
          (λ (g : Grant). Unit {0})
          → MatchOption g (MatchOption c ⊥ (λ (c : Clashing). IsElsewhere decl a h c.holder))
          (λ (g : Grant). Unit {0})
      by (Some g) c fit = tt
      by None None never = never
      by None (Some c) fit =
          run_clear decl script accepted asks calm h open_inputs run a named q among c.holder fit.0 (λ name.
          let mine : begun_by decl a h ≡ Some sent.0.tx =
          ap (λ (o : Option Current). option_map (λ (t : Current). t.tx) o) sent.1 in
          let both : Some sent.0.tx ≡ Some c.holder = sym mine ∙ name in
          let same : sent.0.tx ≡ c.holder = cc in
          let yes_same : same_tx c.holder sent.0.tx ≡ true =
          subst (λ (x : TxId). same_tx c.holder x ≡ true) (sym same) (same_tx_itself c.holder) in
          let apart : same_tx c.holder sent.0.tx ≡ false = fit.1 in
          let never : ⊥ = cc in never)

  want_good : (want : Want) (answer : Answer) → Fits (sent_before q.site q.number (mail h)) sent.0.tx want answer
      → GoodAnswer decl a h want answer
  want_good (Read read) answer fit = hold_good answer fit
  want_good (Append object view own) answer fit = hold_good answer fit
  want_good Prepare answer fit = fit

  pub taken_good : GoodTaken decl a h q.want q.taken
  taken_good = by q.taken refl
    where
      by : (o : Option (Option Answer)) → q.taken ≡ o → GoodTaken decl a h q.want o
      by None is = tt
      by (Some None) is =
          lost_from decl (new_account (a - decl.sites)) (deeds a [] h)
          (run_no_loss decl script calm.lossless h open_inputs run a) (λ p never none. never) q among is
      by (Some (Some answer)) is = want_good q.want answer (answered answer is)
