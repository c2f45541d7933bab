-- Where whoever gets an actor's requests answers them at once, an unanswered request is at its receiver.
use Rattle.std.proofs.Common.{[], ◌≡◌, ℕ, ◌+◌, ◌<◌, ◌≤◌, ◌==◌, Bool, true, false, List, ◌∷◌, ◌++◌, length, Some, None}
use Rattle.std.proofs.Common.{slice_get, refl, sym, ap, ◌∙◌, subst, append_assoc}
use Rattle.std.specs.Prelude.{fold, slice_set}
use Rattle.std.proofs.lemmas.Bool.{eq-eqb, eqb-true}
use Rattle.std.proofs.lemmas.List.Sums.{fold-append}
use Rattle.qc_list.specs.Vocabulary.{In}
use Rattle.qc_core.specs.Vocabulary.{ActorMove, IsLawfulWithFalls, actor_after, actor_takes, with_record}
use Rattle.qc_core.specs.Lives as lives
use Rattle.qc_core.proofs.PostsByTurns.{called_turn}
use Rattle.qc_decl.specs.Vocabulary.{actors, controller}
use Rattle.qc_decl.specs.declared.declaration.Declaration.{Declaration}
use Rattle.qc_mailbox.proofs.FallLaws.{no_input_is_open_while_a_line_is_left}
use Rattle.qc_mailbox.proofs.FallMail.{ready_messages_were_sent_through_falls}
use Rattle.laws_turns.specs.Vocabulary.{IsAtReceiver, IsTaken, LivesIn}
use Rattle.qc_link.specs.Vocabulary.{most_actors}
use Rattle.laws_turns.proofs.Lived.{actors_live_in_runs_with_falls}
use Rattle.qc_msg.specs.declared.message.Envelope.{Envelope}
use Rattle.qc_msg.specs.declared.message.Message.TheVariants as messages
use Rattle.qc_msg.specs.declared.record.Record.{Record}
use Rattle.qc_msg.specs.declared.step.Control.{Control}
use Rattle.qc_msg.specs.declared.step.Control.TheVariants as controls
use Rattle.qc_msg.specs.declared.step.Fall.TheVariants as causes
use Rattle.qc_msg.specs.declared.step.Input.TheVariants as inputs
use Rattle.qc_msg.specs.declared.step.Step.{Step}
use Rattle.qc_msg.specs.declared.step.Step.TheVariants as steps
use Rattle.qc_msg.specs.declared.turn.Appended.{Appended}
use Rattle.qc_msg.specs.declared.turn.Appended.TheVariants.{Done, Failed, Stopped}
use Rattle.qc_msg.specs.declared.turn.Turn.{Turn}
use Rattle.qc_msg.specs.Vocabulary.{Deed, Entry, Takes, by, deeds, fell, mail, marked, posted, posted_as, sents, told}
use Rattle.qc_msg.proofs.DeedsGrow.{deeds-other}
use Rattle.qc_msg.proofs.Growth.{deeds-taken}
use Rattle.qc_script.specs.declared.script.Script.{Script}
use Rattle.qc_script.specs.Vocabulary.{Inbox, RunsWithFalls, SentRequest, begins, control, controller_step}
use Rattle.qc_script.specs.Vocabulary.{controls_left, damaged, empty_inbox, falls, inbox, phase, phase_of, posts}
use Rattle.qc_script.specs.Vocabulary.{request_numbers, rises, takes, unopened}
use Rattle.laws_due.proofs.Somewhere.{AreSomewhere, IsSomewhere, MayAllFollow, MayFollow, all_follow, post_follows}
use Rattle.laws_due.proofs.SiteTurns.{fell_last, step_on, took_up, turn_ends}
use Rattle.laws_due.proofs.Taken.{in_numbers, of_number, RepliesTo, IsReplied, AreReplied, moved_to, taken_stays}
use Rattle.laws_due.proofs.Taken.{take_kept}
use Rattle.laws_turns.proofs.StepCases.{controller_cases}
use Rattle.qc_core.proofs.ActorLaws.{input}
use Rattle.qc_list.proofs.Places.{slice_get-set_other}

module _ (decl : Declaration) (script : Script) (fits : ℕ → List Record → Type 0) (few : actors decl ≤ most_actors)
    (a : ℕ) (a_low : a < most_actors) (are_replied : AreReplied decl script fits a) where
  abbrev IsRun : List Entry → List Bool → Type 0
  IsRun h open_inputs = RunsWithFalls (IsLawfulWithFalls decl) fits decl script h open_inputs

  abbrev IsKept : List Entry → List Bool → Type 0
  IsKept h open_inputs = AreSomewhere script (IsTaken h open_inputs) h a

  -- who has taken a request and posts answers it, or falls

  post_over : (older : List Entry) (before : List Bool) (b n : ℕ) (turn : Turn) → IsRun older before
      → slice_get before b ≡ Some true → IsLawfulWithFalls decl b (deeds b [] older) turn
      → (first : List Deed) (e : Envelope) → IsReplied decl a e → e.to ≡ b → e.from ≡ a
      → deeds b [] older ≡ first ++ Takes (inputs.Got e) ∷ []
      → (r : SentRequest) → r.number ≡ e.number → r.to ≡ b
      → In r (inbox script a (older ++ by b (posted_as turn.append n turn))).unanswered → ⊥
  post_over older before b n turn run open_b law first e d to from last r number to_b = ends turn.append
    where
      not_a : (b == a) ≡ false
      not_a = subst (λ (k : ℕ). (k == a) ≡ false) to d.other.1

      lived : LivesIn decl b older true
      lived = actors_live_in_runs_with_falls decl script fits few older before run b true open_b

      up : lives.is_up first ≡ true
      up = took_up decl b (deeds b [] older) lived.above lived.lives first e last

      reply : RepliesTo e (actor_takes decl (actor_after decl b first).actor (inputs.Got e)).turn
      reply =
          subst (λ (k : ℕ). RepliesTo e (actor_takes decl (actor_after decl k first).actor (inputs.Got e)).turn) to
          (d.replies first up)

      turn_is : with_record turn ≡ (actor_takes decl (actor_after decl b first).actor (inputs.Got e)).turn
      turn_is =
          sym (called_turn decl b (deeds b [] older) turn law)
          ∙ ap (λ (ds : List Deed). (actor_after decl b ds).turn) last
          ∙ ap (λ (m : ActorMove). m.turn) (input decl b first (inputs.Got e))

      sends : turn.sends ≡ record { to = a; message = messages.Answer e.number reply.answer } ∷ reply.rest
      sends =
          ap (λ (t : Turn). t.sends) turn_is ∙ reply.sends
          ∙ ap (λ (k : ℕ). record { to = k; message = messages.Answer e.number reply.answer } ∷ reply.rest) from

      gone : (r.to == b) ≡ false → ⊥
      gone other = let yes : (r.to == b) ≡ true = eq-eqb r.to b to_b in let never : ⊥ = cc in never

      ends : (end : Appended) → In r (inbox script a (older ++ by b (posted_as end n turn))).unanswered → ⊥
      ends Done member =
          turn_ends script a b not_a (inbox script a older) n turn e.number reply.answer reply.rest sends
          (subst (λ (k : ℕ). In k
          (request_numbers
          (fold (step_on script a b not_a) (inbox script a older) (by b (posted n turn))).unanswered)) number
          (in_numbers r _
          (subst (λ (i : Inbox). In r i.unanswered)
          (fold-append (step_on script a b not_a) empty_inbox older (by b (posted n turn))) member)))
      ends Failed member = gone (fell_last script a b older (sents n turn.failed_sends ++ told turn.failed_told)
          causes.Disk turn.write r
          (subst (λ (xs : List Step). In r (inbox script a (older ++ by b xs)).unanswered)
          (sym (append_assoc (sents n turn.failed_sends) (told turn.failed_told) (fell causes.Disk turn.write)))
          member))
      ends Stopped member = gone (fell_last script a b older (told turn.failed_told) causes.Stop turn.write r member)

  post_kept : (b : ℕ) (turn : Turn) (before : List Bool) (older : List Entry) → IsRun older before
      → slice_get before b ≡ Some true → IsLawfulWithFalls decl b (deeds b [] older) turn
      → IsRun (older ++ by b (posted_as turn.append (length (mail older)) turn)) (slice_set before b false)
      → IsKept older before
      → IsKept (older ++ by b (posted_as turn.append (length (mail older)) turn)) (slice_set before b false)
  post_kept b turn before older run open_b law whole are =
      moved_to decl script fits few a a_low are_replied (IsTaken older before)
      (IsTaken (older ++ by b (posted_as turn.append (length (mail older)) turn)) (slice_set before b false))
      (older ++ by b (posted_as turn.append (length (mail older)) turn)) change
      (all_follow script (IsTaken older before) a a_low older (by b (posted_as turn.append (length (mail older)) turn))
      (post_follows a b (length (mail older)) turn.append turn
      (are_replied.posts older before (slice_set before b false) run b turn whole law)) are)
    where
      change : (r : SentRequest)
          (s : IsSomewhere script (IsTaken older before)
          (older ++ by b (posted_as turn.append (length (mail older)) turn)) a r)
          → In r (inbox script a (older ++ by b (posted_as turn.append (length (mail older)) turn))).unanswered
          → IsTaken older before s.envelope
          → IsTaken (older ++ by b (posted_as turn.append (length (mail older)) turn)) (slice_set before b false)
          s.envelope
      change r s member t = on (b == s.envelope.to) refl
        where
          on : (same : Bool) → (b == s.envelope.to) ≡ same
              → IsTaken (older ++ by b (posted_as turn.append (length (mail older)) turn)) (slice_set before b false)
              s.envelope
          on false other =
              taken_stays decl script fits few a a_low are_replied older
              (by b (posted_as turn.append (length (mail older)) turn)) before
              (slice_set before b false) s.envelope
              (deeds-other b s.envelope.to [] older (posted_as turn.append (length (mail older)) turn) other)
              (slice_get-set_other before b s.envelope.to false
              (λ is.
              (let yes : (b == s.envelope.to) ≡ true = eq-eqb b s.envelope.to is in let never : ⊥ = cc in never)))
              t
          on true mine =
              let is : b ≡ s.envelope.to = eqb-true b s.envelope.to mine in
              absurd (post_over older before b (length (mail older)) turn run open_b law t.before s.envelope
              (are_replied.replied (older ++ by b (posted_as turn.append (length (mail older)) turn))
              (slice_set before b false) whole s.envelope s.sent s.from s.request)
              (sym is) s.from
              (subst (λ (k : ℕ). deeds k [] older ≡ t.before ++ Takes (inputs.Got s.envelope) ∷ []) (sym is) t.last)
              r (sym s.number) (sym s.to ∙ sym is) member)

  -- events where no input is open
  closed_kept : (older k : List Entry) (before : List Bool) → ((b : ℕ) → slice_get before b ≡ Some true → ⊥)
      → MayAllFollow a k → IsKept older before → IsKept (older ++ k) before
  closed_kept older k before none may are =
      moved_to decl script fits few a a_low are_replied (IsTaken older before) (IsTaken (older ++ k) before)
      (older ++ k)
      (λ r s member t. absurd (none s.envelope.to t.is_open))
      (all_follow script (IsTaken older before) a a_low older k may are)

  line_kept : (older k : List Entry) (before : List Bool) → IsRun older before → (line : Control) (lines : List Control)
      → controls_left script older ≡ line ∷ lines → MayAllFollow a k → IsKept older before → IsKept (older ++ k) before
  line_kept older k before run line lines left may are =
      closed_kept older k before
      (no_input_is_open_while_a_line_is_left (IsLawfulWithFalls decl) fits decl script older before few run line lines
      left) may are

  control_follows : (c : ℕ) (line : Control) (step : Step) → controller_step line ≡ Some step → MayFollow a c step
  control_follows c line step is =
      controller_cases (MayFollow a c) (λ x y. tt) (λ x y. tt) (λ x. tt) line step is

  pub run_kept : (h : List Entry) (open_inputs : List Bool) → IsRun h open_inputs → IsKept h open_inputs
  run_kept h open_inputs begins = λ r member. absurd member
  run_kept h open_inputs (takes b g before older run free rdy) =
      take_kept decl script fits few a a_low are_replied b g before older free rdy
      (deeds-taken b older g
      (ready_messages_were_sent_through_falls (IsLawfulWithFalls decl) fits decl script older before run b g rdy))
      (run_kept older before run)
  run_kept h open_inputs (posts b turn before older run open_b law) =
      post_kept b turn before older run open_b law (posts b turn before older run open_b law)
      (run_kept older before run)
  run_kept h open_inputs (phase before older run none done quiet_all more) =
      closed_kept older (marked (controller decl) (steps.Phase (phase_of older + 1)) ∷ []) before none (tt, tt)
      (run_kept older before run)
  run_kept h open_inputs (control line lines step before older run left is) =
      line_kept older (marked (controller decl) step ∷ []) before run line lines left
      (control_follows (controller decl) line step is, tt) (run_kept older before run)
  run_kept h open_inputs (falls b lines before older run left) =
      line_kept older (marked b (steps.Fell causes.Script None) ∷ []) before run (controls.Crash b) lines left (tt, tt)
      (run_kept older before run)
  run_kept h open_inputs (rises b kept turn lines before older run left fit has law) =
      line_kept older (by b (steps.Rose kept ∷ posted_as turn.append (length (mail older)) turn)) before run
      (controls.Restart b) lines left (
        tt,
        post_follows a b (length (mail older)) turn.append turn
            (are_replied.rises older before before run b kept turn
            (rises b kept turn lines before older run left fit has law) law),
      ) (run_kept older before run)
  run_kept h open_inputs (damaged b offset lines before older run left) =
      line_kept older (marked b (steps.Damaged offset) ∷ []) before run (controls.Restart b) lines left (tt, tt)
      (run_kept older before run)
  run_kept h open_inputs (unopened b cause lines before older run left disk) =
      line_kept older (marked b (steps.Fell cause None) ∷ []) before run (controls.Restart b) lines left (tt, tt)
      (run_kept older before run)

  -- an unanswered request is at its receiver
  pub unanswered_at_receiver : (h : List Entry) (open_inputs : List Bool) → IsRun h open_inputs → (n : ℕ)
      → In n (request_numbers (inbox script a h).unanswered) → IsAtReceiver script h open_inputs a n
  unanswered_at_receiver h open_inputs run n member = at (of_number n (inbox script a h).unanswered member)
    where
      at : (r : SentRequest) × (In r (inbox script a h).unanswered × (r.number ≡ n))
          → IsAtReceiver script h open_inputs a n
      at found =
          let s : IsSomewhere script (IsTaken h open_inputs) h a found.0 =
          run_kept h open_inputs run found.0 found.1.0 in
          record {
            envelope = s.envelope;
            number = s.number ∙ found.1.1;
            from = s.from;
            request = s.request;
            sent = s.sent;
            place = s.place;
          }
