-- In each run with falls each request of a client goes to a site, and names what is declared.
use Rattle.std.proofs.Common.{◌≡◌, ℕ, ◌+◌, ◌-◌, ◌<◌, ◌≤◌, Bool, true, List, [], ◌∷◌, ◌++◌, length, Some, None, refl}
use Rattle.std.proofs.Common.{sym, subst, arith}
use Rattle.std.specs.Prelude.{fold}
use Rattle.std.specs.List.{AllByRecursion as Every}
use Rattle.qc_client.specs.declared.client.Client.{Client}
use Rattle.qc_core.proofs.ByNumber.{client_new, client_risen}
use Rattle.qc_core.specs.declared.actor.Actor.{Actor}
use Rattle.qc_core.specs.declared.actor.Actor.TheVariants as actor
use Rattle.qc_core.specs.Vocabulary.{ActorMove, IsLawfulWithFalls, actor_does, actor_rises, actor_sends, actor_takes}
use Rattle.qc_core.specs.Vocabulary.{moved, new_actor, with_record}
use Rattle.qc_core.proofs.PostsByTurns.{called_turn}
use Rattle.qc_core.proofs.Written.{client_written}
use Rattle.qc_decl.specs.Vocabulary.{IsAccepted, controller, is_client}
use Rattle.qc_decl.specs.declared.declaration.Declaration.{Declaration}
use Rattle.laws_due.proofs.Commanded.{run_askable}
use Rattle.laws_turns.specs.Vocabulary.{AsksDeclared}
use Rattle.laws_turns.proofs.SoundClients.{IsAskableDeed, IsAskableGiven, Sound, SoundMove, sent_sound, takes_sound}
use Rattle.laws_turns.proofs.Rounds.{AreProper, IsProper}
use Rattle.qc_msg.specs.declared.message.Envelope.{Envelope}
use Rattle.qc_msg.specs.declared.record.Record.{Record}
use Rattle.qc_msg.specs.declared.step.Control.{Control}
use Rattle.qc_msg.specs.declared.step.Fall.TheVariants as causes
use Rattle.qc_msg.specs.declared.step.Input.{Input}
use Rattle.qc_msg.specs.declared.step.Input.TheVariants as inputs
use Rattle.qc_msg.specs.declared.step.Step.{Step}
use Rattle.qc_msg.specs.declared.step.Step.TheVariants as steps
use Rattle.qc_msg.specs.declared.turn.Appended.{Appended}
use Rattle.qc_msg.specs.declared.turn.Appended.TheVariants.{Done, Failed, Stopped}
use Rattle.qc_msg.specs.declared.turn.Posting.{Posting}
use Rattle.qc_msg.specs.declared.turn.Turn.{Turn}
use Rattle.qc_msg.specs.Vocabulary.{Deed, Entry, Falls, Rises, Sends, Takes, Tells, Writes, by, deeds, envelopes, mail}
use Rattle.qc_msg.specs.Vocabulary.{marked, posted_as, quiet, sends_as}
use Rattle.qc_msg.proofs.GrownMail.{mail-append, mail-taken}
use Rattle.qc_msg.proofs.Growth.{mail-posted_as}
use Rattle.qc_script.specs.Vocabulary.{RunsWithFalls, begins, control, controller_step, damaged, falls, phase, phase_of}
use Rattle.qc_script.specs.Vocabulary.{posts, rises, takes, unopened}
use Rattle.qc_script.specs.declared.script.Script.{Script}
use Rattle.laws_due.proofs.Places.{client_below, client_past}
use Rattle.laws_turns.proofs.StepCases.{controller_cases}
use Rattle.qc_list.proofs.Members.{every-append}
use Rattle.qc_msg.proofs.DeedsGrow.{deeds-rise}

module _ (decl : Declaration) (accepted : IsAccepted decl) (a : ℕ) (client : is_client decl a ≡ true) where
  -- the client over its deeds

  abbrev ActorSound : Actor → Type 0
  ActorSound (actor.Site s) = ⊥
  ActorSound (actor.Client c) = Sound decl (a - decl.sites) c
  ActorSound (actor.Admin m) = ⊥
  ActorSound actor.Down = Unit {0}

  record MoveSound (m : ActorMove) : Type 0 where
    state : ActorSound m.actor
    sends : AreProper decl m.turn.sends
    failed : m.turn.failed_sends ≡ []

  within : a - decl.sites < decl.clients
  within =
      let low : a < decl.sites + decl.clients = client_below decl a client in
      let past : decl.sites ≤ a = client_past decl a client in
      omega arith

  client_sound : (c : Client) (g : Input) → IsAskableGiven decl a g → Sound decl (a - decl.sites) c
      → MoveSound (actor_takes decl (actor.Client c) g)
  client_sound c g is s =
      let m : SoundMove decl (a - decl.sites) _ = takes_sound decl accepted a (a - decl.sites) within c g is s in
      record { state = m.sound; sends = m.sends; failed = (client_written decl c g).failed_sends }

  takes_move : (v : Actor) (g : Input) → IsAskableGiven decl a g → ActorSound v → MoveSound (actor_takes decl v g)
  takes_move (actor.Site s) g is never = absurd never
  takes_move (actor.Client c) g is s = client_sound c g is s
  takes_move (actor.Admin m) g is never = absurd never
  takes_move actor.Down (inputs.Called command) is s = record { state = tt; sends = tt; failed = refl }
  takes_move actor.Down (inputs.Got e) is s = record { state = tt; sends = tt; failed = refl }
  takes_move actor.Down (inputs.Lost n) is s = record { state = tt; sends = tt; failed = refl }

  sends_state : (v : Actor) (n to : ℕ) (message : _) → ActorSound v → ActorSound (actor_sends v n to message)
  sends_state (actor.Site s) n to message never = never
  sends_state (actor.Client c) n to message s = sent_sound decl accepted a (a - decl.sites) within c n to message s
  sends_state (actor.Admin m) n to message never = never
  sends_state actor.Down n to message s = tt

  rises_move : (kept : List Record) → MoveSound (actor_rises decl a kept)
  rises_move kept =
      subst MoveSound (sym (client_risen decl a client kept))
      (record {
        state = record { front = record { client = refl; begun = tt }; sited = tt };
        sends = tt;
        failed = refl;
      })

  all_moves : (ds : List Deed) (m : ActorMove) → Every (IsAskableDeed decl a) ds → MoveSound m
      → MoveSound (fold (actor_does decl a) m ds)
  all_moves [] m are s = s
  all_moves (Takes g ∷ ds) m are s = all_moves ds (actor_takes decl m.actor g) are.1
      (takes_move m.actor g are.0 s.state)
  all_moves (Writes written ∷ ds) m are s = all_moves ds m are.1 s
  all_moves (Sends n to message ∷ ds) m are s =
      all_moves ds (record m { actor = actor_sends m.actor n to message }) are.1
      (record { state = sends_state m.actor n to message s.state; sends = s.sends; failed = s.failed })
  all_moves (Tells reply ∷ ds) m are s = all_moves ds m are.1 s
  all_moves (Falls cause pending ∷ ds) m are s =
      all_moves ds (moved actor.Down quiet) are.1 (record { state = tt; sends = tt; failed = refl })
  all_moves (Rises kept ∷ ds) m are s = all_moves ds (actor_rises decl a kept) are.1 (rises_move kept)

  new_sound : ActorSound (new_actor decl a)
  new_sound = subst ActorSound (sym (client_new decl a client))
      (record { front = record { client = refl; begun = tt }; sited = tt })

  abbrev MoveSends : Turn → Type 0
  MoveSends t = AreProper decl t.sends × (t.failed_sends ≡ [])

  lawful_proper : (ds : List Deed) (turn : Turn) → Every (IsAskableDeed decl a) ds → IsLawfulWithFalls decl a ds turn
      → AreProper decl (sends_as turn.append turn)
  lawful_proper ds turn are law =
      by turn.append (subst MoveSends (called_turn decl a ds turn law)
      (whole (all_moves ds (moved (new_actor decl a) quiet) are
      (record { state = new_sound; sends = tt; failed = refl }))))
    where
      whole : {m : ActorMove} → MoveSound m → MoveSends m.turn
      whole s = (s.sends, s.failed)

      by : (end : Appended) → MoveSends (with_record turn) → AreProper decl (sends_as end turn)
      by Done s = s.0
      by Failed s = subst (AreProper decl) (sym s.1) tt
      by Stopped s = tt

  -- its mail

  abbrev pub IsOwnProper : Envelope → Type 0
  IsOwnProper e = e.from ≡ a → IsProper decl e.to e.message

  abbrev pub AreOwnProper : List Envelope → Type 0
  AreOwnProper ms = Every IsOwnProper ms

  posted_proper : (b n : ℕ) (ps : List Posting) → (b ≡ a → AreProper decl ps) → AreOwnProper (envelopes b n ps)
  posted_proper b n [] are = tt
  posted_proper b n (p ∷ ps) are = ((λ is. (are is).0), posted_proper b (n + 1) ps (λ is. (are is).1))

  more_proper : (h k : List Entry) → AreOwnProper (mail h) → AreOwnProper (mail k) → AreOwnProper (mail (h ++ k))
  more_proper h k first second = subst AreOwnProper (sym (mail-append h k))
      (every-append IsOwnProper (mail h) (mail k) first second)

  module _ (script : Script) (asks : AsksDeclared decl script) (fits : ℕ → List Record → Type 0) where
    abbrev IsRun : List Entry → List Bool → Type 0
    IsRun h open_inputs = RunsWithFalls (IsLawfulWithFalls decl) fits decl script h open_inputs

    askable : (h : List Entry) (open_inputs : List Bool) → IsRun h open_inputs
        → Every (IsAskableDeed decl a) (deeds a [] h)
    askable h open_inputs run = run_askable (IsLawfulWithFalls decl) fits decl script asks h open_inputs run a

    pub post_sends : (older : List Entry) (before : List Bool) → IsRun older before → (b : ℕ) (turn : Turn)
        → IsLawfulWithFalls decl b (deeds b [] older) turn → b ≡ a → AreProper decl (sends_as turn.append turn)
    post_sends older before run b turn law is =
        lawful_proper (deeds a [] older) turn (askable older before run)
        (subst (λ (k : ℕ). IsLawfulWithFalls decl k (deeds k [] older) turn) is law)

    pub rise_sends : (older : List Entry) (before : List Bool) → IsRun older before
        → (b : ℕ) (kept : List Record) (turn : Turn)
        → IsLawfulWithFalls decl b (deeds b [] (older ++ marked b (steps.Rose kept) ∷ [])) turn → b ≡ a
        → AreProper decl (sends_as turn.append turn)
    rise_sends older before run b kept turn law is =
        lawful_proper (deeds a [] older ++ Rises kept ∷ []) turn
        (every-append (IsAskableDeed decl a) (deeds a [] older) (Rises kept ∷ []) (askable older before run) (tt, tt))
        (subst (λ (ds : List Deed). IsLawfulWithFalls decl a ds turn) (deeds-rise a older kept)
        (subst (λ (k : ℕ). IsLawfulWithFalls decl k (deeds k [] (older ++ marked k (steps.Rose kept) ∷ [])) turn) is
        law))

    line_proper : (b : ℕ) (line : Control) (step : Step) → controller_step line ≡ Some step
        → AreOwnProper (mail (marked b step ∷ []))
    line_proper b line step is =
        controller_cases (λ (s : Step). AreOwnProper (mail (marked b s ∷ []))) (λ x y. tt) (λ x y. tt) (λ x. tt) line
        step is

    pub run_proper : (h : List Entry) (open_inputs : List Bool) → IsRun h open_inputs → AreOwnProper (mail h)
    run_proper h open_inputs begins = tt
    run_proper h open_inputs (takes b g before older run free rdy) =
        subst AreOwnProper (sym (mail-taken older b g)) (run_proper older before run)
    run_proper h open_inputs (posts b turn before older run taken law) =
        more_proper older (by b (posted_as turn.append (length (mail older)) turn)) (run_proper older before run)
        (subst AreOwnProper (sym (mail-posted_as turn.append b (length (mail older)) turn))
        (posted_proper b (length (mail older)) (sends_as turn.append turn)
        (post_sends older before run b turn law)))
    run_proper h open_inputs (phase before older run none done quiet_all more) =
        more_proper older (marked (controller decl) (steps.Phase (phase_of older + 1)) ∷ [])
        (run_proper older before run) tt
    run_proper h open_inputs (control line lines step before older run left is) =
        more_proper older (marked (controller decl) step ∷ []) (run_proper older before run)
        (line_proper (controller decl) line step is)
    run_proper h open_inputs (falls b lines before older run left) =
        more_proper older (marked b (steps.Fell causes.Script None) ∷ []) (run_proper older before run) tt
    run_proper h open_inputs (rises b kept turn lines before older run left fit has law) =
        more_proper older (by b (steps.Rose kept ∷ posted_as turn.append (length (mail older)) turn))
        (run_proper older before run)
        (subst AreOwnProper (sym (mail-posted_as turn.append b (length (mail older)) turn))
        (posted_proper b (length (mail older)) (sends_as turn.append turn)
        (rise_sends older before run b kept turn law)))
    run_proper h open_inputs (damaged b offset lines before older run left) =
        more_proper older (marked b (steps.Damaged offset) ∷ []) (run_proper older before run) tt
    run_proper h open_inputs (unopened b cause lines before older run left disk) =
        more_proper older (marked b (steps.Fell cause None) ∷ []) (run_proper older before run) tt
