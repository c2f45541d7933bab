-- In each run of an accepted declaration whose script names declared objects, an unanswered request is at its site.
use Rattle.std.proofs.Common.{[], ◌≡◌, ℕ, ◌+◌, ◌-◌, ◌<◌, ◌≤◌, ◌==◌, Bool, true, false, List, ◌∷◌, ◌++◌, length, Some}
use Rattle.std.proofs.Common.{slice_get, refl, sym, ap, ◌∙◌, subst, arith, eqb-true, eq-eqb}
use Rattle.std.specs.Prelude.{slice_set}
use Rattle.std.proofs.lemmas.Bool.{lt-ltb}
use Rattle.qc_list.specs.Vocabulary.{In}
use Rattle.qc_list.proofs.Members.{every-In, every-back}
use Rattle.qc_core.specs.Vocabulary.{IsLawful}
use Rattle.qc_decl.specs.declared.declaration.Declaration.{Declaration}
use Rattle.qc_decl.specs.Vocabulary.{IsAccepted, controller}
use Rattle.qc_link.specs.Vocabulary.{most_actors, with_cut, without_cut}
use Rattle.qc_msg.specs.declared.message.Envelope.{Envelope}
use Rattle.qc_msg.specs.declared.message.Message.TheVariants as messages
use Rattle.qc_msg.specs.declared.step.Control.{Control}
use Rattle.qc_msg.specs.declared.step.Input.{Input}
use Rattle.qc_msg.specs.declared.step.Input.TheVariants as inputs
use Rattle.qc_msg.specs.declared.step.Step.{Step}
use Rattle.qc_msg.specs.declared.step.Step.TheVariants as steps
use Rattle.qc_msg.specs.declared.turn.Turn.{Turn}
use Rattle.qc_msg.specs.Vocabulary.{Deed, Entry, Takes, by, deeds, envelopes, mail, marked, posted}
use Rattle.qc_msg.proofs.GrownMail.{mail-append, mail-posted}
use Rattle.qc_msg.proofs.DeedsGrow.{deeds-other}
use Rattle.qc_msg.proofs.Growth.{deeds-taken}
use Rattle.qc_script.specs.declared.script.Script.{Script}
use Rattle.qc_script.specs.Vocabulary.{Runs, everybody, inbox, is_request, phase_of, request_numbers, step_of_control}
use Rattle.qc_script.proofs.AllUp.{run_up}
use Rattle.qc_script.specs.Runs.{begins, takes, posts, phase, control}
use Rattle.qc_site.specs.Vocabulary.{SiteMove, passed, site_after, site_at}
use Rattle.laws_turns.specs.Vocabulary.{AsksDeclared, IsAtReceiver, IsTaken}
use Rattle.laws_turns.proofs.Acted.{deeds-silent}
use Rattle.laws_turns.proofs.Answering.{cuts_copies, cuts_unanswered, phase_copies, phase_unanswered}
use Rattle.laws_turns.proofs.Arrivals.{what_is_ready_was_sent}
use Rattle.laws_turns.proofs.ReadyFirst.{ready_copy}
use Rattle.laws_turns.proofs.StepsKeep.{AreSomewhere, IsSomewhere, mail_first, somewhere_still, turn_somewhere}
use Rattle.laws_turns.proofs.Kept.{turn_ends}
use Rattle.laws_turns.proofs.Numbered.{control_silent, phase_silent}
use Rattle.laws_turns.proofs.Proper.{run_proper}
use Rattle.laws_turns.proofs.Served.{lawful_site}
use Rattle.laws_turns.proofs.SiteReplies.{IsMailProper, IsProperFrom, IsReply}
use Rattle.laws_turns.proofs.TakenRequests.{IsDeclared, declared_request, site_turn, moved_to, taken_stays, flip}
use Rattle.laws_turns.proofs.TakenRequests.{take_kept}
use Rattle.laws_turns.proofs.StepCases.{control_cases}
use Rattle.qc_list.proofs.Places.{slice_get-set_other}

module _ (decl : Declaration) (script : Script) (accepted : IsAccepted decl) (asks : AsksDeclared decl script) (a : ℕ)
    (a_low : a < most_actors) where
  abbrev IsKept : List Entry → List Bool → Type 0
  IsKept h open_inputs = AreSomewhere script (IsTaken h open_inputs) h a

  -- a site answers the request that it took

  answered_at : (b n : ℕ) (turn : Turn) (older : List Entry) (before : List Deed) (e : Envelope) → IsDeclared decl e
      → e.to ≡ b → e.from ≡ a → deeds b [] older ≡ before ++ Takes (inputs.Got e) ∷ []
      → IsLawful decl b (deeds b [] older) turn → (inbox script a older).up ≡ everybody
      → In e.number (request_numbers (inbox script a (older ++ by b (posted n turn))).unanswered) → ⊥
  answered_at b n turn older before e d to from last law up member =
      turn_ends script a b apart older n turn e.number reply.answer reply.rest sends up member
    where
      low : b < decl.sites
      low = subst (λ (s : ℕ). s < decl.sites) to d.site

      apart : (b == a) ≡ false
      apart =
          flip decl script accepted asks a a_low b a
          (λ same. (let past : decl.sites ≤ e.from = d.past in
          let is : e.from ≡ a = from in let less : b < decl.sites = low in omega arith))

      reply : IsReply e.from e.number
          (site_at decl (passed (site_after decl b before).site e.message) e.from e.number e.message)
      reply = d.replies (passed (site_after decl b before).site e.message)

      turn_is : turn ≡ (site_at decl (passed (site_after decl b before).site e.message) e.from e.number e.message).turn
      turn_is =
          lawful_site decl b (lt-ltb b decl.sites low) (deeds b [] older) turn law
          ∙ ap (λ (ds : List Deed). (site_after decl b ds).turn) last
          ∙ ap (λ (m : SiteMove). m.turn) (site_turn decl b before e)

      sends : turn.sends ≡ record { to = a; message = messages.Answer e.number reply.answer } ∷ reply.rest
      sends =
          ap (λ (t : Turn). t.sends) turn_is ∙ reply.sends
          ∙ ap (λ (s : ℕ). record { to = s; message = messages.Answer e.number reply.answer } ∷ reply.rest) from

  declared_at : (older : List Entry) (before : List Bool) → Runs (IsLawful decl) decl script older before
      → (e : Envelope) → In e (mail older) → is_request e.message ≡ true → IsDeclared decl e
  declared_at older before run e member request =
      declared_request decl e e.message refl request
      (every-In (λ (x : Envelope). IsProperFrom decl x.from x.to x.message) e (mail older)
      (run_proper decl script accepted asks older before run) member)

  pub run_kept : (h : List Entry) (open_inputs : List Bool) → Runs (IsLawful decl) decl script h open_inputs
      → AreSomewhere script (IsTaken h open_inputs) h a
  run_kept h open_inputs begins = λ n member. absurd member
  run_kept h open_inputs (takes b taken before older run free rdy) =
      take_kept decl script accepted asks a a_low b taken before older free
      (λ e is. ready_copy decl b (inbox script b older) e (rdy ∙ ap (λ (g : Input). Some g) is))
      (deeds-taken b older taken (what_is_ready_was_sent (IsLawful decl) decl script older before run b taken rdy))
      (run_kept older before run)
  run_kept h open_inputs (posts b turn before older run open_b law) =
      moved_to decl script accepted asks a a_low (IsTaken older before)
      (IsTaken (older ++ by b (posted (length (mail older)) turn)) (slice_set before b false))
      (older ++ by b (posted (length (mail older)) turn)) change
      (turn_somewhere script (IsTaken older before) a decl (let few : decl.sites ≤ 16 = accepted.sites in few) a_low
      older b (length (mail older)) turn (λ s. run_up (IsLawful decl) decl script older before run s) proper
      (run_kept older before run))
    where
      whole : IsMailProper decl (mail (older ++ by b (posted (length (mail older)) turn)))
      whole =
          run_proper decl script accepted asks (older ++ by b (posted (length (mail older)) turn))
          (slice_set before b false) (posts b turn before older run open_b law)

      proper : IsMailProper decl (envelopes b (length (mail older)) turn.sends)
      proper =
          every-back (λ (x : Envelope). IsProperFrom decl x.from x.to x.message) (mail older)
          (envelopes b (length (mail older)) turn.sends)
          (subst (IsMailProper decl)
          (mail-append older (by b (posted (length (mail older)) turn))
          ∙ ap (λ (v : List Envelope). mail older ++ v) (mail-posted b (length (mail older)) turn)) whole)

      change : (n : ℕ)
          (r : IsSomewhere script (IsTaken older before) (older ++ by b (posted (length (mail older)) turn)) a n)
          → In n (request_numbers (inbox script a (older ++ by b (posted (length (mail older)) turn))).unanswered)
          → IsTaken older before r.envelope
          → IsTaken (older ++ by b (posted (length (mail older)) turn)) (slice_set before b false) r.envelope
      change n r member t = on (b == r.envelope.to) refl
        where
          on : (same : Bool) → (b == r.envelope.to) ≡ same
              → IsTaken (older ++ by b (posted (length (mail older)) turn)) (slice_set before b false) r.envelope
          on false other =
              taken_stays decl script accepted asks a a_low older (by b (posted (length (mail older)) turn)) before
              (slice_set before b false) r.envelope
              (deeds-other b r.envelope.to [] older (posted (length (mail older)) turn) other)
              (slice_get-set_other before b r.envelope.to false
              (λ is.
              (let yes : (b == r.envelope.to) ≡ true = eq-eqb b r.envelope.to is in let never : ⊥ = cc in never)))
              t
          on true mine =
              let is : b ≡ r.envelope.to = eqb-true b r.envelope.to mine in
              absurd (answered_at b (length (mail older)) turn older t.before r.envelope
              (declared_at (older ++ by b (posted (length (mail older)) turn)) (slice_set before b false)
              (posts b turn before older run open_b law) r.envelope r.proper r.request)
              (sym is) r.from
              (subst (λ (s : ℕ). deeds s [] older ≡ t.before ++ Takes (inputs.Got r.envelope) ∷ []) (sym is) t.last)
              law (run_up (IsLawful decl) decl script older before run a)
              (subst (λ (k : ℕ). In k
              (request_numbers (inbox script a (older ++ by b (posted (length (mail older)) turn))).unanswered))
              (sym r.number) member))
  run_kept h open_inputs (phase before older run none done quiet_all more) =
      moved_to decl script accepted asks a a_low (IsTaken older before)
      (IsTaken (older ++ marked (controller decl) (steps.Phase (phase_of older + 1)) ∷ []) before)
      (older ++ marked (controller decl) (steps.Phase (phase_of older + 1)) ∷ [])
      (λ n r member t. taken_stays decl script accepted asks a a_low older
      (marked (controller decl) (steps.Phase (phase_of older + 1)) ∷ []) before
      before r.envelope
      (deeds-silent r.envelope.to (controller decl) older (steps.Phase (phase_of older + 1))
      (phase_silent (phase_of older + 1))) refl t)
      (somewhere_still script (IsTaken older before) a older (controller decl) (steps.Phase (phase_of older + 1))
      (phase_unanswered a (inbox script a older) (slice_get script.phases ((phase_of older + 1) - 1)))
      (λ s x member. phase_copies s (inbox script s older) (slice_get script.phases ((phase_of older + 1) - 1)) x
      member)
      (λ x member. mail_first script (IsTaken older before) a older
      (marked (controller decl) (steps.Phase (phase_of older + 1)) ∷ []) x member) (run_kept older before run))
  run_kept h open_inputs (control line lines step before older run left is) =
      moved_to decl script accepted asks a a_low (IsTaken older before)
      (IsTaken (older ++ marked (controller decl) step ∷ []) before)
      (older ++ marked (controller decl) step ∷ [])
      (λ n r member t. taken_stays decl script accepted asks a a_low older (marked (controller decl) step ∷ []) before
      before r.envelope
      (deeds-silent r.envelope.to (controller decl) older step (control_silent line step is)) refl t)
      (acts line is (run_kept older before run))
    where
      acts : (line : Control) → step_of_control line ≡ Some step → IsKept older before
          → AreSomewhere script (IsTaken older before) (older ++ marked (controller decl) step ∷ []) a
      acts line s are =
          control_cases
          (λ (v : Step). AreSomewhere script (IsTaken older before) (older ++ marked (controller decl) v ∷ []) a)
          (λ x y. somewhere_still script (IsTaken older before) a older (controller decl) (steps.Cut x y)
          (cuts_unanswered a (inbox script a older) (with_cut (inbox script a older).cuts x y))
          (λ s x2 member. cuts_copies s (inbox script s older) (with_cut (inbox script s older).cuts x y) x2 member)
          (λ x2 member. mail_first script (IsTaken older before) a older
          (marked (controller decl) (steps.Cut x y) ∷ []) x2 member) are)
          (λ x y. somewhere_still script (IsTaken older before) a older (controller decl) (steps.Heal x y)
          (cuts_unanswered a (inbox script a older) (without_cut (inbox script a older).cuts x y))
          (λ s x2 member. cuts_copies s (inbox script s older) (without_cut (inbox script s older).cuts x y) x2 member)
          (λ x2 member. mail_first script (IsTaken older before) a older
          (marked (controller decl) (steps.Heal x y) ∷ []) x2 member) are)
          line step s

  -- an unanswered request is at its site
  pub unanswered_requests_are_at_their_sites : (h : List Entry) (open_inputs : List Bool)
      → Runs (IsLawful decl) decl script h open_inputs
      → (n : ℕ) → In n (request_numbers (inbox script a h).unanswered) → IsAtReceiver script h open_inputs a n
  unanswered_requests_are_at_their_sites h open_inputs run n member = at (run_kept h open_inputs run n member)
    where
      at : IsSomewhere script (IsTaken h open_inputs) h a n → IsAtReceiver script h open_inputs a n
      at r =
          record {
            envelope = r.envelope;
            number = r.number;
            from = r.from;
            request = r.request;
            sent = r.proper;
            place = r.place;
          }

  pub receiver_is_site : (h : List Entry) (open_inputs : List Bool) → Runs (IsLawful decl) decl script h open_inputs
      → (e : Envelope) → In e (mail h) → is_request e.message ≡ true → e.to < decl.sites
  receiver_is_site h open_inputs run e member request = (declared_at h open_inputs run e member request).site
