-- Each message that a site takes: an act of the machine, or none.
use Rattle.std.proofs.Common.{◌≡◌, ◌≤◌, ◌⊎◌, inl, inr, ℕ, ◌==◌, ◌∙◌, nat_lt, Bool, true, false, cond, List, Option}
use Rattle.std.proofs.Common.{Some, None, refl, subst, arith, ◌<◌}
use Rattle.qc_stamp.specs.declared.stamp.TxId.{TxId}
use Rattle.qc_list.specs.Vocabulary.{In}
use Rattle.qc_decl.specs.declared.declaration.Declaration.{Declaration}
use Rattle.qc_decl.specs.Vocabulary.{IsAccepted, is_site}
use Rattle.qc_msg.specs.declared.message.Answer.{Answer}
use Rattle.qc_msg.specs.declared.message.Envelope.{Envelope}
use Rattle.qc_msg.specs.declared.message.Message.{Message}
use Rattle.qc_msg.specs.declared.message.Want.{Want}
use Rattle.qc_msg.specs.declared.message.Want.TheVariants.{Read, Append, Prepare}
use Rattle.qc_msg.specs.declared.step.Input.{Input}
use Rattle.qc_msg.specs.declared.step.Input.TheVariants.{Called, Got, Lost}
use Rattle.qc_msg.specs.Vocabulary.{quiet}
use Rattle.theory_machine.specs.Vocabulary.{Act, IsRun, state}
use Rattle.qc_site.specs.Vocabulary.{SiteMove, SiteState, clock_after, closed_fault, fault_of, grants, latest, moved}
use Rattle.qc_site.specs.Vocabulary.{passed, site_on, site_takes}
use Rattle.qc_site.proofs.RequestCases.{request_cases}
use Rattle.laws_refinement.specs.Vocabulary.{Backed, Continues, IsClosing, IsMessage, IsPlanned, MayCome, Mirrors, Net}
use Rattle.laws_refinement.specs.Vocabulary.{after_site}
use Rattle.laws_refinement.proofs.Closing.{close_case}
use Rattle.laws_refinement.proofs.InstallCases.{install_case}
use Rattle.laws_refinement.proofs.SiteGrants.{says, stands}
use Rattle.laws_refinement.proofs.SiteSteps.{latest_passes}
use Rattle.qc_site.specs.Vocabulary.{HasArrived}
use Rattle.laws_refinement.proofs.GrantCases.{append_case, read_case}
use Rattle.qc_msg.specs.declared.message.Answer.TheVariants as answers
use Rattle.qc_msg.specs.declared.message.Message.TheVariants as messages
use Rattle.laws_refinement.proofs.MessageCases.{site_cases}
use Rattle.laws_refinement.proofs.PrepareCases.{prepare_case}
use Rattle.laws_refinement.proofs.SiteDecisions.{Passes, passes, decision_case}
use Rattle.qc_site.proofs.Clocks.{latest_later}

module _ (decl : Declaration) (accepted : IsAccepted decl) (acts : List Act) (net : Net) (a : ℕ) (run : IsRun decl acts)
    (m : Mirrors decl (state acts) net) (site : is_site decl a ≡ true) (up : net.up a ≡ true)
    (has : HasArrived (net.sites a)) where
  -- a refusal tells no epoch without a plan

  refused : (epoch life from number : ℕ) (s : SiteState) → IsPlanned decl s.epoch → IsClosing decl s.epoch s.closed_for
      → (refusal : Answer) → fault_of s epoch life ≡ Some refusal
      → Backed decl (state acts) net.mail a from (messages.Answer number refusal)
  refused epoch life from number s planned closing refusal = by (nat_lt s.epoch epoch) (nat_lt epoch s.epoch)
    where
      given : (x : Answer) → Backed decl (state acts) net.mail a from (messages.Answer number x) → Some x ≡ Some refusal
          → Backed decl (state acts) net.mail a from (messages.Answer number refusal)
      given x b same =
          let e : x ≡ refusal = cc in
          subst (λ (y : Answer). Backed decl (state acts) net.mail a from (messages.Answer number y)) e b

      life_by : (b c : Bool) → cond b None (cond c None (Some (answers.Restarted s.life))) ≡ Some refusal
          → Backed decl (state acts) net.mail a from (messages.Answer number refusal)
      life_by true c e = absurd (let never : ⊥ = cc in never)
      life_by false true e = absurd (let never : ⊥ = cc in never)
      life_by false false e = given (answers.Restarted s.life) tt e

      shut_by : (o : Option ℕ) → IsClosing decl s.epoch o → closed_fault s life o ≡ Some refusal
          → Backed decl (state acts) net.mail a from (messages.Answer number refusal)
      shut_by None c e = life_by (life == 0) (life == s.life) e
      shut_by (Some k) c e = given (answers.Closed k) c.1 e

      by : (b c : Bool)
          → cond b (Some (answers.Behind s.epoch))
          (cond c (Some (answers.Closed s.epoch)) (closed_fault s life s.closed_for)) ≡ Some refusal
          → Backed decl (state acts) net.mail a from (messages.Answer number refusal)
      by true c e = given (answers.Behind s.epoch) tt e
      by false true e = given (answers.Closed s.epoch) planned e
      by false false e = shut_by s.closed_for closing e

  -- a request: it isn't looked at, refused by its epoch or life, or looked at

  request_case : (from number epoch life : ℕ) (tx : TxId) (want : Want)
      → Backed decl (state acts) net.mail from a (messages.Request tx epoch life want)
      → IsMessage net.mail number a (messages.Request tx epoch life want)
      → Continues decl acts
      (after_site net a (site_on decl (net.sites a) from number (messages.Request tx epoch life want)))
  request_case from number epoch life tx want backed request =
      request_cases (λ (move : SiteMove). Continues decl acts (after_site net a move)) decl
      (passed (net.sites a) (messages.Request tx epoch life want)) from number tx epoch life want
      (stands decl acts net a run m site up (clock_after (net.sites a).clock (messages.Request tx epoch life want))
      (moved (passed (net.sites a) (messages.Request tx epoch life want)) quiet) (grows want) refl refl
      (λ p never. absurd never))
      (λ refusal is. says decl acts net a run m site up
      (clock_after (net.sites a).clock (messages.Request tx epoch life want)) from number refusal (grows want)
      (refused epoch life from number (passed (net.sites a) (messages.Request tx epoch life want))
      (m.sites a site up).planned (m.sites a site up).closing refusal is))
      (λ is. looked_at want backed request
      (passes (passed (net.sites a) (messages.Request tx epoch life want)) epoch life is))
    where
      grows : (w : Want) → (net.sites a).clock ≤ clock_after (net.sites a).clock (messages.Request tx epoch life w)
      grows (Read read) = omega arith
      grows (Append object view own) = latest_later (net.sites a).clock view
      grows Prepare = omega arith

      named : 0 < life → (life ≡ 0) ⊎ (life ≡ (net.sites a).life) → life ≡ (net.sites a).life
      named some (inl none) = omega arith
      named some (inr is) = is

      looked_at : (w : Want) → Backed decl (state acts) net.mail from a (messages.Request tx epoch life w)
          → IsMessage net.mail number a (messages.Request tx epoch life w)
          → Passes (passed (net.sites a) (messages.Request tx epoch life w)) epoch life
          → Continues decl acts
          (after_site net a
          (grants decl (passed (net.sites a) (messages.Request tx epoch life w)) from number tx w))
      looked_at (Read read) b r p =
          read_case decl accepted acts net a run m site up has (net.sites a).clock from number tx epoch life read b.3
          (p.epoch_is ∙ b.2) p.unshut p.lived (omega arith) r b.1
      looked_at (Append object view own) b r p =
          append_case decl accepted acts net a run m site up (latest (net.sites a).clock view) from number tx epoch life
          object view own (p.epoch_is ∙ b.2) p.unshut p.lived (latest_later (net.sites a).clock view)
          (λ l among. latest_passes (net.sites a).clock view l among) r b.1 b.3
      looked_at Prepare b r p =
          prepare_case decl accepted acts net a run m site up (net.sites a).clock from number tx (omega arith)
          (record { epoch = epoch; life = life; is = r }) (b.3).0
          (λ g among its at. (b.3).2 g among its at ∙ named (b.3).1 p.lived)

  -- any message

  message_case : (e : Envelope) → In e net.mail → e.to ≡ a
      → Continues decl acts (after_site net a (site_on decl (net.sites a) e.from e.number e.message))
  message_case e among to = by e.message refl
    where
      nothing : Continues decl acts (after_site net a (moved (net.sites a) quiet))
      nothing =
          stands decl acts net a run m site up (net.sites a).clock (moved (net.sites a) quiet) (omega arith) refl refl
          (λ p never. absurd never)

      back : (message : Message) → e.message ≡ message → Backed decl (state acts) net.mail e.from a message
      back message same =
          subst (λ (n : ℕ). Backed decl (state acts) net.mail e.from n message) to
          (subst (λ (x : Message). Backed decl (state acts) net.mail e.from e.to x) same (m.mail e among))

      by : (message : Message) → e.message ≡ message
          → Continues decl acts (after_site net a (site_on decl (net.sites a) e.from e.number message))
      by =
          site_cases decl (net.sites a) e.from e.number
          (λ message move. e.message ≡ message → Continues decl acts (after_site net a move))
          (λ q same. request_case e.from e.number q.epoch q.life q.tx q.want
          (back (messages.Request q.tx q.epoch q.life q.want) same) (e, m.numbered e among, to, same))
          (λ v same. decision_case decl accepted acts net a run m site up v.tx v.verdict e.from e.number
          (back (messages.Decision v.tx v.verdict) same))
          (λ epoch same. close_case decl accepted acts net a run m site up e.from e.number epoch
          (back (messages.Close epoch) same) (e, m.numbered e among, to, same))
          (λ start same. install_case decl acts net a run m site up e.from e.number start.epoch start.clock start.lines
          (back (messages.Install start) same))
          (λ message same. nothing)

  -- whatever a site takes
  pub serve_case : (given : Input) → MayCome net a given
      → Continues decl acts (after_site net a (site_takes decl (net.sites a) given))
  serve_case (Got e) came = message_case e came.0 came.1
  serve_case (Called command) came =
      stands decl acts net a run m site up (net.sites a).clock (moved (net.sites a) quiet) (omega arith) refl refl
      (λ p never. absurd never)
  serve_case (Lost number) came =
      stands decl acts net a run m site up (net.sites a).clock (moved (net.sites a) quiet) (omega arith) refl refl
      (λ p never. absurd never)
