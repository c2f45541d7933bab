-- In each run with falls the administrator's Closes and Installs go to sites, and each Ask to the client of its
-- transaction.
use Rattle.std.proofs.Common.{◌≡◌, ℕ, ◌+◌, Bool, List, [], ◌∷◌, ◌++◌, length, Some, None, refl, sym, subst}
use Rattle.std.specs.Prelude.{fold}
use Rattle.std.specs.List.{AllByRecursion as Every}
use Rattle.qc_core.proofs.AdminWrites.{admin_written}
use Rattle.qc_core.proofs.ByNumber.{admin_new, admin_no_client, admin_no_site, admin_risen}
use Rattle.qc_core.proofs.PostsByTurns.{called_turn}
use Rattle.qc_core.specs.declared.actor.Actor.{Actor}
use Rattle.qc_core.specs.declared.actor.Actor.TheVariants as actors
use Rattle.qc_core.specs.Vocabulary.{ActorMove, IsLawfulWithFalls, actor_does, actor_rises, actor_sends, actor_takes}
use Rattle.qc_core.specs.Vocabulary.{moved, new_actor, with_record}
use Rattle.qc_decl.specs.Vocabulary.{IsAccepted, administrator, controller}
use Rattle.qc_decl.specs.declared.declaration.Declaration.{Declaration}
use Rattle.qc_epoch.specs.Vocabulary.{admin_takes}
use Rattle.qc_msg.specs.Vocabulary.{Deed, Entry, Falls, Rises, Sends, Takes, Tells, Writes, by, deeds, envelopes, mail}
use Rattle.qc_msg.specs.Vocabulary.{marked, posted_as, quiet, sends_as}
use Rattle.qc_msg.specs.declared.message.Envelope.{Envelope}
use Rattle.qc_msg.specs.declared.message.Message.{Message}
use Rattle.qc_msg.specs.declared.record.Record.{Record}
use Rattle.qc_msg.specs.declared.step.Control.{Control}
use Rattle.qc_msg.specs.declared.step.Fall.TheVariants as causes
use Rattle.qc_msg.specs.declared.step.Input.{Input}
use Rattle.qc_msg.specs.declared.step.Input.TheVariants as inputs
use Rattle.qc_msg.specs.declared.step.Step.{Step}
use Rattle.qc_msg.specs.declared.step.Step.TheVariants as steps
use Rattle.qc_msg.specs.declared.turn.Appended.{Appended}
use Rattle.qc_msg.specs.declared.turn.Appended.TheVariants.{Done, Failed, Stopped}
use Rattle.qc_msg.specs.declared.turn.Posting.{Posting}
use Rattle.qc_msg.specs.declared.turn.Turn.{Turn}
use Rattle.qc_msg.proofs.GrownMail.{mail-append, mail-taken}
use Rattle.qc_msg.proofs.Growth.{mail-posted_as}
use Rattle.qc_script.specs.Vocabulary.{RunsWithFalls, begins, control, controller_step, damaged, falls, phase, phase_of}
use Rattle.qc_script.specs.Vocabulary.{posts, rises, takes, unopened}
use Rattle.qc_script.specs.declared.script.Script.{Script}
use Rattle.laws_due.proofs.AdminSited.{GoWell, GoesWell, IsSited, Sited, sent_sited, takes_sited}
use Rattle.laws_turns.proofs.StepCases.{controller_cases}
use Rattle.qc_list.proofs.Members.{every-append}

module _ (decl : Declaration) (accepted : IsAccepted decl) where
  -- over his deeds

  abbrev ActorSited : Actor → Type 0
  ActorSited (actors.Site s) = ⊥
  ActorSited (actors.Client c) = ⊥
  ActorSited (actors.Admin m) = IsSited decl m.doing
  ActorSited actors.Down = Unit {0}

  record MoveSited (m : ActorMove) : Type 0 where
    state : ActorSited m.actor
    sends : GoWell decl m.turn.sends
    failed : m.turn.failed_sends ≡ []

  takes_move : (v : Actor) (g : Input) → ActorSited v → MoveSited (actor_takes decl v g)
  takes_move (actors.Site s) g never = absurd never
  takes_move (actors.Client c) g never = absurd never
  takes_move (actors.Admin m) g state = let s : Sited decl (admin_takes decl m g) =
      takes_sited decl accepted m g state in record
      { state = s.state; sends = s.sends; failed = (admin_written decl m g).failed_sends }
  takes_move actors.Down (inputs.Called command) state = record { state = tt; sends = tt; failed = refl }
  takes_move actors.Down (inputs.Got e) state = record { state = tt; sends = tt; failed = refl }
  takes_move actors.Down (inputs.Lost n) state = record { state = tt; sends = tt; failed = refl }

  sends_state : (v : Actor) (n to : ℕ) (message : Message) → ActorSited v → ActorSited (actor_sends v n to message)
  sends_state (actors.Site s) n to message never = never
  sends_state (actors.Client c) n to message never = never
  sends_state (actors.Admin m) n to message state = sent_sited decl accepted m n to message state
  sends_state actors.Down n to message state = tt

  rises_move : (kept : List Record) → MoveSited (actor_rises decl (administrator decl) kept)
  rises_move kept = subst MoveSited (sym (admin_risen decl (administrator decl) (admin_no_site decl)
      (admin_no_client decl) kept)) (record { state = tt; sends = tt; failed = refl })

  all_moves : (ds : List Deed) (m : ActorMove) → MoveSited m
      → MoveSited (fold (actor_does decl (administrator decl)) m ds)
  all_moves [] m s = s
  all_moves (Takes g ∷ ds) m s = all_moves ds (actor_takes decl m.actor g) (takes_move m.actor g s.state)
  all_moves (Writes written ∷ ds) m s = all_moves ds m s
  all_moves (Sends n to message ∷ ds) m s =
      all_moves ds (record m { actor = actor_sends m.actor n to message })
      (record { state = sends_state m.actor n to message s.state; sends = s.sends; failed = s.failed })
  all_moves (Tells reply ∷ ds) m s = all_moves ds m s
  all_moves (Falls cause pending ∷ ds) m s =
      all_moves ds (moved actors.Down quiet) (record { state = tt; sends = tt; failed = refl })
  all_moves (Rises kept ∷ ds) m s = all_moves ds (actor_rises decl (administrator decl) kept) (rises_move kept)

  new_sited : MoveSited (moved (new_actor decl (administrator decl)) quiet)
  new_sited = record {
    state = subst ActorSited
        (sym (admin_new decl (administrator decl) (admin_no_site decl) (admin_no_client decl))) tt;
    sends = tt;
    failed = refl;
  }

  abbrev TurnGoes : Turn → Type 0
  TurnGoes t = GoWell decl t.sends × (t.failed_sends ≡ [])

  lawful_goes : (ds : List Deed) (turn : Turn) → IsLawfulWithFalls decl (administrator decl) ds turn
      → GoWell decl (sends_as turn.append turn)
  lawful_goes ds turn law =
      by turn.append (subst TurnGoes (called_turn decl (administrator decl) ds turn law)
      (whole (all_moves ds (moved (new_actor decl (administrator decl)) quiet) new_sited)))
    where
      whole : {m : ActorMove} → MoveSited m → TurnGoes m.turn
      whole s = (s.sends, s.failed)

      by : (end : Appended) → TurnGoes (with_record turn) → GoWell decl (sends_as end turn)
      by Done s = s.0
      by Failed s = subst (GoWell decl) (sym s.1) tt
      by Stopped s = tt

  pub post_goes : (older : List Entry) (b : ℕ) (turn : Turn) → IsLawfulWithFalls decl b (deeds b [] older) turn
      → b ≡ administrator decl → GoWell decl (sends_as turn.append turn)
  post_goes older b turn law is = lawful_goes (deeds (administrator decl) [] older) turn
      (subst (λ (k : ℕ). IsLawfulWithFalls decl k (deeds k [] older) turn) is law)

  pub rise_goes : (older : List Entry) (b : ℕ) (kept : List Record) (turn : Turn)
      → IsLawfulWithFalls decl b (deeds b [] (older ++ marked b (steps.Rose kept) ∷ [])) turn → b ≡ administrator decl
      → GoWell decl (sends_as turn.append turn)
  rise_goes older b kept turn law is =
      lawful_goes (deeds (administrator decl) [] (older ++ marked (administrator decl) (steps.Rose kept) ∷ [])) turn
      (subst (λ (k : ℕ). IsLawfulWithFalls decl k (deeds k [] (older ++ marked k (steps.Rose kept) ∷ [])) turn) is law)

  -- his mail

  abbrev pub GoesHis : Envelope → Type 0
  GoesHis e = e.from ≡ administrator decl → GoesWell decl e.to e.message

  abbrev pub GoHis : List Envelope → Type 0
  GoHis ms = Every GoesHis ms

  posted_goes : (b n : ℕ) (ps : List Posting) → (b ≡ administrator decl → GoWell decl ps) → GoHis (envelopes b n ps)
  posted_goes b n [] are = tt
  posted_goes b n (p ∷ ps) are = ((λ is. (are is).0), posted_goes b (n + 1) ps (λ is. (are is).1))

  more_goes : (h k : List Entry) → GoHis (mail h) → GoHis (mail k) → GoHis (mail (h ++ k))
  more_goes h k one two = subst GoHis (sym (mail-append h k)) (every-append GoesHis (mail h) (mail k) one two)

  module _ (script : Script) (fits : ℕ → List Record → Type 0) where
    line_goes : (b : ℕ) (line : Control) (step : Step) → controller_step line ≡ Some step
        → GoHis (mail (marked b step ∷ []))
    line_goes b line step is =
        controller_cases (λ (s : Step). GoHis (mail (marked b s ∷ []))) (λ x y. tt) (λ x y. tt) (λ x. tt) line step is

    pub run_goes : (h : List Entry) (open_inputs : List Bool)
        → RunsWithFalls (IsLawfulWithFalls decl) fits decl script h open_inputs → GoHis (mail h)
    run_goes h open_inputs begins = tt
    run_goes h open_inputs (takes b g before older run free rdy) =
        subst GoHis (sym (mail-taken older b g)) (run_goes older before run)
    run_goes h open_inputs (posts b turn before older run taken law) =
        more_goes older (by b (posted_as turn.append (length (mail older)) turn)) (run_goes older before run)
        (subst GoHis (sym (mail-posted_as turn.append b (length (mail older)) turn))
        (posted_goes b (length (mail older)) (sends_as turn.append turn) (post_goes older b turn law)))
    run_goes h open_inputs (phase before older run none done quiet_all more) =
        more_goes older (marked (controller decl) (steps.Phase (phase_of older + 1)) ∷ [])
        (run_goes older before run) tt
    run_goes h open_inputs (control line lines step before older run left is) =
        more_goes older (marked (controller decl) step ∷ []) (run_goes older before run)
        (line_goes (controller decl) line step is)
    run_goes h open_inputs (falls b lines before older run left) =
        more_goes older (marked b (steps.Fell causes.Script None) ∷ []) (run_goes older before run) tt
    run_goes h open_inputs (rises b kept turn lines before older run left fit has law) =
        more_goes older (by b (steps.Rose kept ∷ posted_as turn.append (length (mail older)) turn))
        (run_goes older before run)
        (subst GoHis (sym (mail-posted_as turn.append b (length (mail older)) turn))
        (posted_goes b (length (mail older)) (sends_as turn.append turn) (rise_goes older b kept turn law)))
    run_goes h open_inputs (damaged b offset lines before older run left) =
        more_goes older (marked b (steps.Damaged offset) ∷ []) (run_goes older before run) tt
    run_goes h open_inputs (unopened b cause lines before older run left disk) =
        more_goes older (marked b (steps.Fell cause None) ∷ []) (run_goes older before run) tt
