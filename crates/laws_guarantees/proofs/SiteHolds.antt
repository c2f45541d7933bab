-- A step of a site: what it granted was asked for before, and is held after it.
use Rattle.std.proofs.Common.{◌≡◌, ◌⊎◌, ℕ, true, List, ◌++◌, inl, inr, length, Some, slice_get, refl, sym, ap, ◌∙◌}
use Rattle.std.proofs.Common.{subst}
use Rattle.qc_stamp.specs.declared.stamp.TxId.{TxId}
use Rattle.qc_list.specs.Vocabulary.{In}
use Rattle.qc_decl.specs.declared.declaration.Declaration.{Declaration}
use Rattle.qc_decl.specs.Vocabulary.{IsAccepted, is_site}
use Rattle.qc_lock.specs.Vocabulary.{is_held}
use Rattle.qc_msg.specs.declared.message.Answer.TheVariants as answers
use Rattle.qc_msg.specs.declared.message.Envelope.{Envelope}
use Rattle.qc_msg.specs.declared.message.Message.{Message}
use Rattle.qc_msg.specs.declared.message.Message.TheVariants as messages
use Rattle.qc_msg.specs.declared.message.Want.{Want}
use Rattle.qc_msg.specs.declared.payload.Grant.{Grant}
use Rattle.qc_msg.specs.declared.step.Input.{Input}
use Rattle.qc_msg.specs.declared.step.Input.TheVariants as inputs
use Rattle.qc_msg.specs.declared.turn.Posting.{Posting}
use Rattle.qc_msg.specs.Vocabulary.{envelopes}
use Rattle.theory_machine.specs.Vocabulary.{state}
use Rattle.qc_site.specs.Vocabulary.{SiteMove, SiteState, passed, site_at, site_takes}
use Rattle.laws_refinement.specs.Vocabulary.{Backed, IsGrantTo, IsRequest, MayCome, Net, Refines, after_site}
use Rattle.laws_atomic.proofs.Calm.{IsCalm, is_reached}
use Rattle.laws_refinement.proofs.Machine.{put_one}
use Rattle.laws_refinement.proofs.Posts.{Place, placed}
use Rattle.laws_refinement.proofs.Refining.{nets_refine}
use Rattle.laws_guarantees.proofs.AnswersToInputs.{IsAnswering, IsAnsweringTo, answers_inputs, answers_request}
use Rattle.laws_guarantees.proofs.SiteMoves.{IsFull, granted_is_held, held_stays}
use Rattle.laws_atomic.proofs.FirstSites.{IsCalmGiven}
use Rattle.laws_guarantees.proofs.NetMessages.{WasEnded, ended_more, IsFullMessage, AreFullMessages, IsGrantedBy}
use Rattle.laws_guarantees.proofs.NetMessages.{same_request}
use Rattle.qc_list.proofs.Places.{slice_get-more}
use Rattle.qc_list.proofs.Members.{In-either}

module _ (decl : Declaration) (accepted : IsAccepted decl) where
  -- a site that takes an input, and what it had

  stays : (s : SiteState) (g : Input) (tx : TxId) (mail : List Envelope) (a : ℕ) (net : Net) → net.mail ≡ mail
      → MayCome net a g → IsCalmGiven g → is_held s.held tx ≡ true
      → (is_held (site_takes decl s g).site.held tx ≡ true) ⊎ WasEnded mail tx
  stays s (inputs.Called command) tx mail a net same came calm held = inl held
  stays s (inputs.Lost number) tx mail a net same came calm held = inl held
  stays s (inputs.Got e) tx mail a net same came calm held =
      elim (held_stays decl (passed s e.message) e.from e.number e.message tx calm held) [
        | inl still ↦ inl still
        | inr ends ↦
            inr (record { envelope = e; sent = subst (λ (ms : List Envelope). In e ms) same came.0; ends = ends })
      ]

  -- an answer of a site's turn grants what is held after it
  granted_now : (net : Net) (a : ℕ) (g : Input) (p : Posting) (number : ℕ) (grant : Grant) (tx : TxId) (want : Want)
      → AreFullMessages net.mail → ((e : Envelope) → In e net.mail → slice_get net.mail e.number ≡ Some e)
      → MayCome net a g
      → In p (site_takes decl (net.sites a) g).turn.sends
      → p.message ≡ messages.Answer number (answers.Granted grant) → (more : List Envelope)
      → IsRequest (net.mail ++ more) number a tx want
      → ((n : ℕ) (e : Envelope) → slice_get net.mail n ≡ Some e → slice_get (net.mail ++ more) n ≡ Some e)
      → is_held (site_takes decl (net.sites a) g).site.held tx ≡ true
  granted_now net a g p number grant tx want full numbered came posted is more asked longer =
      by (answers_request g number first tx asked.epoch asked.life want asked_there)
    where
      first : IsAnswering g number
      first = answers_inputs decl (net.sites a) g p number (answers.Granted grant) posted is

      first_here : In first.envelope net.mail
      first_here = (subst (MayCome net a) first.is came).0

      asked_there : first.envelope.message ≡ messages.Request tx asked.epoch asked.life want
      asked_there =
          let at : slice_get (net.mail ++ more) number ≡ Some first.envelope =
          subst (λ (n : ℕ). slice_get (net.mail ++ more) n ≡ Some first.envelope) first.numbered
          (longer first.envelope.number first.envelope (numbered first.envelope first_here)) in
          let e : asked.is.0 ≡ first.envelope =
          (let both_are : Some asked.is.0 ≡ Some first.envelope = sym asked.is.1 ∙ at in cc) in
          sym (ap (λ (x : Envelope). x.message) e) ∙ asked.is.3

      by : IsAnsweringTo g number → is_held (site_takes decl (net.sites a) g).site.held tx ≡ true
      by r = subst (λ (x : Input). is_held (site_takes decl (net.sites a) x).site.held tx ≡ true) (sym r.is)
          (subst (λ (m : Message). is_held (site_at decl (passed (net.sites a) r.envelope.message) r.envelope.from
          r.envelope.number m).site.held tx ≡ true) (sym content)
          (granted_is_held decl (passed (net.sites a) r.envelope.message) r.envelope.from r.envelope.number tx r.epoch
          r.life r.want weighty p number grant
          (subst (λ (m : Message). In p
          (site_at decl (passed (net.sites a) r.envelope.message) r.envelope.from r.envelope.number m).turn.sends)
          content (subst (λ (x : Input). In p (site_takes decl (net.sites a) x).turn.sends) r.is posted)) is))
        where
          here : In r.envelope net.mail
          here = (subst (MayCome net a) r.is came).0

          weighty : IsFull r.want
          weighty = subst IsFullMessage r.content (full r.envelope here)

          found : slice_get (net.mail ++ more) number ≡ Some r.envelope
          found =
              subst (λ (n : ℕ). slice_get (net.mail ++ more) n ≡ Some r.envelope) r.numbered
              (longer r.envelope.number r.envelope (numbered r.envelope here))

          same_tx_there : r.tx ≡ tx
          same_tx_there =
              let e : asked.is.0 ≡ r.envelope =
              (let both_are : Some asked.is.0 ≡ Some r.envelope = sym asked.is.1 ∙ found in cc) in
              sym (same_request tx r.tx asked.epoch asked.life r.epoch r.life want r.want
              (sym asked.is.3 ∙ ap (λ (x : Envelope). x.message) e ∙ r.content)).0

          content : r.envelope.message ≡ messages.Request tx r.epoch r.life r.want
          content = r.content ∙ (λ i. messages.Request (same_tx_there i) r.epoch r.life r.want)

  numbered_in : (net : Net) → IsCalm decl net → (e : Envelope) → In e net.mail → slice_get net.mail e.number ≡ Some e
  numbered_in net reached =
      let r : Refines decl net = nets_refine decl accepted net (is_reached decl net reached) in
      r.agrees.numbered

  -- where the posted messages stand
  longer : (ms more : List Envelope) (n : ℕ) (e : Envelope) → slice_get ms n ≡ Some e
      → slice_get (ms ++ more) n ≡ Some e
  longer ms more n e is = slice_get-more ms more n e is

  -- a request that is answered was sent before its answer
  earlier : (ms more : List Envelope) (site number : ℕ) (tx : TxId) (want : Want) (e : Envelope)
      → slice_get ms number ≡ Some e → IsRequest (ms ++ more) number site tx want → IsRequest ms number site tx want
  earlier ms more site number tx want e here r =
      let same : r.is.0 ≡ e =
      (let both_are : Some r.is.0 ≡ Some e = sym r.is.1 ∙ slice_get-more ms more number e here in cc) in
      record {
        epoch = r.epoch;
        life = r.life;
        is = (r.is.0, here ∙ ap (λ (x : Envelope). Some x) (sym same), r.is.2, r.is.3);
      }

  abbrev pub HoldsOrEnded : Net → ℕ → TxId → Type 0
  HoldsOrEnded net site tx = (is_held (net.sites site).held tx ≡ true) ⊎ WasEnded net.mail tx

  -- a grant that was sent before had its request then
  pub granted_before : (before : Net) (more : List Envelope) (site : ℕ) (tx : TxId) → IsCalm decl before
      → (g : IsGrantedBy (before.mail ++ more) site tx) → In g.answer before.mail → IsGrantedBy before.mail site tx
  granted_before before more site tx r g among = record {
    answer = g.answer;
    sent = among;
    from = g.from;
    number = g.number;
    grant = g.grant;
    grants = g.grants;
    want = g.want;
    asked = earlier before.mail more site g.number tx g.want b.request.0 b.request.1 g.asked;
  }
    where
      m : Refines decl before
      m = nets_refine decl accepted before (is_reached decl before r)

      b : IsGrantTo decl (state m.acts) before.mail g.answer.from g.number g.grant
      b =
          subst (λ (x : Message). Backed decl (state m.acts) before.mail g.answer.from g.answer.to x) g.grants
          (m.agrees.mail g.answer among)

  -- a step of a site

  module _ (before : Net) (a : ℕ) (g : Input) (r : IsCalm decl before) (served : is_site decl a ≡ true)
      (came : MayCome before a g) (calm_input : IsCalmGiven g) (site : ℕ) (tx : TxId) where
    abbrev step : SiteMove
    step = site_takes decl (before.sites a) g

    abbrev posted : List Envelope
    posted = envelopes a (length before.mail) step.turn.sends

    old_holds : is_held (before.sites site).held tx ≡ true → HoldsOrEnded (after_site before a step) site tx
    old_holds =
        put_one (λ (n : ℕ) (s : SiteState). is_held (before.sites n).held tx ≡ true
        → (is_held s.held tx ≡ true) ⊎ WasEnded (before.mail ++ posted) tx) before.sites a step.site site
        (λ held. elim (stays (before.sites a) g tx before.mail a before refl came calm_input held)
        [ inl still ↦ inl still | inr ended ↦ inr (ended_more before.mail posted tx ended) ])
        (λ other held. inl held)

    new_holds : AreFullMessages before.mail → (k : IsGrantedBy (before.mail ++ posted) site tx) → In k.answer posted
        → HoldsOrEnded (after_site before a step) site tx
    new_holds full k among =
        let p : Place a step.turn.sends (before.mail ++ posted) k.answer =
        placed before.mail a (length before.mail) step.turn.sends k.answer refl among in
        let here : site ≡ a = sym k.from ∙ p.from in
        let now : is_held step.site.held tx ≡ true =
        granted_now before a g p.posting k.number k.grant tx k.want full (numbered_in before r) came
        p.among (sym p.message ∙ k.grants) posted
        (subst (λ (n : ℕ). IsRequest (before.mail ++ posted) k.number n tx k.want) here k.asked)
        (λ n e is. slice_get-more before.mail posted n e is) in
        inl (put_one (λ (n : ℕ) (s : SiteState). n ≡ a → is_held s.held tx ≡ true) before.sites a step.site site
        (λ same. now) (λ other same. absurd (other same)) here)

    pub site_step : AreFullMessages before.mail → (IsGrantedBy before.mail site tx → HoldsOrEnded before site tx)
        → IsGrantedBy (before.mail ++ posted) site tx → HoldsOrEnded (after_site before a step) site tx
    site_step full older k = elim (In-either k.answer before.mail posted k.sent) [
      | inl old ↦
          elim (older (granted_before before posted site tx r k old))
          [ inl held ↦ old_holds held | inr ended ↦ inr (ended_more before.mail posted tx ended) ]
      | inr new ↦ new_holds full k new
    ]
