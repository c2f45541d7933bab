-- Where nothing is ready for anybody, no input is open and each control line has acted, no client waits for a request
-- and none runs a command. So none does while a control line is left.
use Rattle.std.proofs.Common.{◌≡◌, ℕ, ◌+◌, ◌<◌, ◌≤◌, ◌==◌, if◌then◌else◌, ◌⊎◌, Bool, true, false, inl, inr, List, []}
use Rattle.std.proofs.Common.{◌∷◌, ◌++◌, length, Some, None, refl, sym, ap, ◌∙◌, subst, arith, slice_get}
use Rattle.qc_list.specs.Vocabulary.{In}
use Rattle.qc_client.specs.declared.client.Client.{Client}
use Rattle.qc_core.specs.declared.actor.Actor.TheVariants as actors
use Rattle.qc_core.specs.Vocabulary.{IsLawfulWithFalls, actor_after, is_running}
use Rattle.qc_decl.specs.Vocabulary.{IsAccepted, controller, is_client}
use Rattle.qc_decl.specs.Actors as numbers
use Rattle.qc_decl.specs.declared.declaration.Declaration.{Declaration}
use Rattle.qc_mailbox.proofs.FallLaws.{no_input_is_open_while_a_line_is_left}
use Rattle.laws_turns.specs.Vocabulary.{AsksDeclared, IsAtReceiver, IsAwaited, IsQuiet, IsTaken, open_calls}
use Rattle.laws_turns.proofs.Acted.{deeds-silent}
use Rattle.laws_turns.proofs.Numbered.{phase_silent}
use Rattle.qc_link.specs.Vocabulary.{most_actors}
use Rattle.laws_turns.proofs.Lived.{run_long}
use Rattle.qc_msg.specs.declared.record.Record.{Record}
use Rattle.qc_msg.specs.declared.step.Control.{Control}
use Rattle.qc_msg.specs.declared.step.Input.{Input}
use Rattle.qc_msg.specs.declared.step.Input.TheVariants as inputs
use Rattle.qc_msg.specs.declared.step.Step.TheVariants as steps
use Rattle.qc_msg.specs.Vocabulary.{Entry, by, deeds, mail, marked, posted_as, step_of}
use Rattle.qc_script.proofs.InboxesSend.{InCommon}
use Rattle.qc_script.proofs.Inboxes.{inboxes_have_in_common}
use Rattle.qc_script.specs.Vocabulary.{Inbox, RunsWithFalls, after_controls, begins, command_called, command_in}
use Rattle.qc_script.specs.Vocabulary.{control, controls_left, copy_taken, damaged, falls, first_copy, first_lost}
use Rattle.qc_script.specs.Vocabulary.{inbox, inbox_at, loss_taken, phase, phase_of, posts, ready, rises, takes}
use Rattle.qc_script.specs.Vocabulary.{unopened}
use Rattle.qc_script.specs.declared.script.Script.{Script}
use Rattle.laws_due.proofs.ClientsAwait.{open_requests_are_awaited_with_falls}
use Rattle.laws_due.proofs.Places.{client_within}
use Rattle.laws_due.proofs.PlainSteps.{ArePlain, line_plain, post_plain}
use Rattle.laws_due.proofs.Plain.{entries_idle, entries_left}
use Rattle.laws_due.proofs.ClientReached.{receiver_is_site, unanswered_requests_are_at_their_sites_with_falls}
use Rattle.laws_due.proofs.LifelongWithFalls.{none_runs_down}
use Rattle.laws_due.proofs.Tied.{IsAtRest, Stands}
use Rattle.laws_due.proofs.Resting.{free_rests, run_waits, tied_rests}
use Rattle.qc_mailbox.proofs.Keeping.{inbox_after}
use Rattle.laws_turns.proofs.Ends.{no_copies, no_losts}
use Rattle.qc_list.proofs.Places.{place_within, some_at}
use Rattle.qc_list.proofs.Members.{In-none}
use Rattle.qc_script.proofs.Actors.{few_actors}

module _ (decl : Declaration) (script : Script) (accepted : IsAccepted decl) (asks : AsksDeclared decl script)
    (fits : ℕ → List Record → Type 0) where
  abbrev IsRun : List Entry → List Bool → Type 0
  IsRun h open_inputs = RunsWithFalls (IsLawfulWithFalls decl) fits decl script h open_inputs

  few : numbers.actors decl ≤ most_actors
  few = few_actors decl accepted

  module _ (h : List Entry) (open_inputs : List Bool) (run : IsRun h open_inputs)
      (closed : (a : ℕ) → slice_get open_inputs a ≡ Some true → ⊥) (quiet : IsQuiet decl script h)
      (done : controls_left script h ≡ []) where
    no_controls : (a : ℕ) → a < numbers.actors decl → (inbox script a h).controls ≡ []
    no_controls a within = let common : InCommon a 0 (inbox script a h) (inbox script 0 h) =
        inboxes_have_in_common script a 0 h (omega arith) (omega arith) in common.controls ∙ done

    pub nothing_ready : (a : ℕ) → a < numbers.actors decl
        → first_copy (inbox script a h).copies (first_lost (inbox script a h).lost
        (command_in decl a (inbox script a h))) ≡ None
    nothing_ready a within =
        ap (λ (lines : List Control). after_controls lines
        (first_copy (inbox script a h).copies (first_lost (inbox script a h).lost
        (command_in decl a (inbox script a h))))) (sym (no_controls a within)) ∙ quiet a within

    pub copies_none : (a : ℕ) → a < numbers.actors decl → (inbox script a h).copies ≡ []
    copies_none a within = no_copies (inbox script a h).copies
        (first_lost (inbox script a h).lost (command_in decl a (inbox script a h))) (nothing_ready a within)

    pub losts_none : (a : ℕ) → a < numbers.actors decl → (inbox script a h).lost ≡ []
    losts_none a within = no_losts (inbox script a h).copies (inbox script a h).lost
        (command_in decl a (inbox script a h)) (nothing_ready a within)

    pub free : (a : ℕ) → a < numbers.actors decl → slice_get open_inputs a ≡ Some false
    free a within =
        let long : length open_inputs ≡ numbers.actors decl = run_long decl script fits few h open_inputs run in
        let place : (t : Bool) × (slice_get open_inputs a ≡ Some t) = some_at open_inputs a (omega arith) in
        by place.0 place.1
      where
        by : (t : Bool) → slice_get open_inputs a ≡ Some t → slice_get open_inputs a ≡ Some false
        by true is = absurd (closed a is)
        by false is = is

    module _ (a : ℕ) (client : is_client decl a ≡ true) where
      nowhere : (n : ℕ) → IsAtReceiver script h open_inputs a n → ⊥
      nowhere n r = at r.place
        where
          within : r.envelope.to < numbers.actors decl
          within =
              let site : r.envelope.to < decl.sites = receiver_is_site decl script accepted asks fits a client h
              open_inputs run r.envelope r.sent r.from r.request in
              let all : numbers.actors decl ≡ decl.sites + decl.clients + 1 = refl in
              omega arith

          at : In r.envelope (inbox script r.envelope.to h).copies ⊎ IsTaken h open_inputs r.envelope → ⊥
          at (inl there) = subst (In r.envelope) (copies_none r.envelope.to within) there
          at (inr t) = closed r.envelope.to t.is_open

      not_awaited : (n : ℕ) → IsAwaited n (inbox script a h) → ⊥
      not_awaited n (inl lost) = subst (In n) (losts_none a (client_within decl a client)) lost
      not_awaited n (inr (inl open_still)) = nowhere n
          (unanswered_requests_are_at_their_sites_with_falls decl script accepted asks fits a client h open_inputs run n
          open_still)
      not_awaited n (inr (inr has)) = subst (In has.envelope) (copies_none a (client_within decl a client)) has.member

      pub none_open : (c : Client) → (actor_after decl a (deeds a [] h)).actor ≡ actors.Client c → open_calls c ≡ []
      none_open c is = In-none (open_calls c)
          (λ q member. not_awaited q.number (open_requests_are_awaited_with_falls decl script a fits few client h
          open_inputs run c is
          q member))

      pub none_runs : is_running (deeds a [] h) ≡ false
      none_runs = by (free_rests decl script fits few h open_inputs run a client (free a (client_within decl a client)))
        where
          on : (up : Bool) → Stands decl a client up (deeds a [] h) → is_running (deeds a [] h) ≡ false
          on true s =
              sym (run_waits decl script fits few asks h open_inputs run a client
              (free a (client_within decl a client)) s.state s.actor)
              ∙ tied_rests decl _ s.state s.holds s.ties (none_open s.state s.actor)
          on false s = none_runs_down decl a client (deeds a [] h) s

          by : IsAtRest decl a client (deeds a [] h) → is_running (deeds a [] h) ≡ false
          by r = on r.up r.stands

  -- while a control line is left

  plain_left : (h k : List Entry) → ArePlain k → controls_left script h ≡ [] → controls_left script (h ++ k) ≡ []
  plain_left h k plain none = (entries_left script 0 h k plain).controls none

  taken_left : (h : List Entry) (b : ℕ) (g : Input)
      → controls_left script (h ++ marked b (step_of g) ∷ []) ≡ controls_left script h
  taken_left h b g = ap (λ (i : Inbox). i.controls) (inbox_after script 0 h (marked b (step_of g))) ∙ by g
    where
      same : (t : Bool) (i j : Inbox) → j.controls ≡ i.controls → (if t then j else i).controls ≡ i.controls
      same true i j is = is
      same false i j is = refl

      by : (g : Input) → (inbox_at script 0 (inbox script 0 h) b (step_of g)).controls ≡ (inbox script 0 h).controls
      by (inputs.Called command) = same (b == 0) (inbox script 0 h) (command_called (inbox script 0 h)) refl
      by (inputs.Got e) = same (b == 0) (inbox script 0 h) (copy_taken (inbox script 0 h)) refl
      by (inputs.Lost n) = same (b == 0) (inbox script 0 h) (loss_taken (inbox script 0 h)) refl

  none_left : (h : List Entry) (b : ℕ) → b < numbers.actors decl → (g : Input) → ready decl script b h ≡ Some g
      → controls_left script h ≡ []
  none_left h b within g rdy =
      (let common : InCommon 0 b (inbox script 0 h) (inbox script b h) =
      inboxes_have_in_common script 0 b h (omega arith) (omega arith) in common.controls)
      ∙ by (inbox script b h).controls rdy
    where
      by : (lines : List Control) → after_controls lines
          (first_copy (inbox script b h).copies (first_lost (inbox script b h).lost
          (command_in decl b (inbox script b h)))) ≡ Some g → lines ≡ []
      by [] is = refl
      by (line ∷ lines) is = absurd (let never : ⊥ = cc in never)

  phase_idle : (h : List Entry) (a : ℕ) → is_running (deeds a [] h) ≡ false
      → is_running (deeds a [] (h ++ marked (controller decl) (steps.Phase (phase_of h + 1)) ∷ [])) ≡ false
  phase_idle h a none = ap is_running (deeds-silent a (controller decl) h (steps.Phase (phase_of h + 1))
      (phase_silent (phase_of h + 1))) ∙ none

  open_closes : (h : List Entry) (open_inputs : List Bool) → IsRun h open_inputs → (b : ℕ)
      → slice_get open_inputs b ≡ Some true → controls_left script h ≡ []
  open_closes h open_inputs run b is = by (controls_left script h) refl
    where
      by : (lines : List Control) → controls_left script h ≡ lines → lines ≡ []
      by [] left = refl
      by (line ∷ lines) left = absurd (no_input_is_open_while_a_line_is_left
          (IsLawfulWithFalls decl) fits decl script h open_inputs few run line lines left b is)

  cannot : {A : Type 0} (lines : List Control) (line : Control) (more : List Control) → lines ≡ [] → lines ≡ line ∷ more
      → A
  cannot lines line more none some = absurd (let never : ⊥ = cc in never)

  -- of one that runs no command where nothing is left, none runs while a control line is

  abbrev pub RestsAtEnds : ℕ → Type 0
  RestsAtEnds a =
      (h : List Entry) (open_inputs : List Bool) → IsRun h open_inputs
      → ((b : ℕ) → slice_get open_inputs b ≡ Some true → ⊥) → IsQuiet decl script h → controls_left script h ≡ []
      → is_running (deeds a [] h) ≡ false

  pub idle_of : (a : ℕ) → RestsAtEnds a → (h : List Entry) (open_inputs : List Bool) → IsRun h open_inputs
      → (line : Control) (lines : List Control) → controls_left script h ≡ line ∷ lines
      → is_running (deeds a [] h) ≡ false
  idle_of a rests h open_inputs begins line lines left = refl
  idle_of a rests h open_inputs (takes b g before older run free_b rdy) line lines left =
      let long : length before ≡ numbers.actors decl = run_long decl script fits few older before run in
      let low : b < length before = place_within before b false free_b in
      cannot (controls_left script (older ++ marked b (step_of g) ∷ [])) line lines
      (taken_left older b g ∙ none_left older b (omega arith) g rdy) left
  idle_of a rests h open_inputs (posts b turn before older run open_b law) line lines left =
      cannot (controls_left script (older ++ by b (posted_as turn.append (length (mail older)) turn))) line lines
      (plain_left older (by b (posted_as turn.append (length (mail older)) turn))
      (post_plain b (length (mail older)) turn.append turn) (open_closes older before run b open_b)) left
  idle_of a rests h open_inputs (phase before older run none done quiet_all more) line lines left =
      phase_idle older a (rests older before run none quiet_all done)
  idle_of a rests h open_inputs (control first rest step before older run at is) line lines left =
      entries_idle a older (marked (controller decl) step ∷ []) (line_plain first step is, tt)
      (idle_of a rests older before run first rest at)
  idle_of a rests h open_inputs (falls b rest before older run at) line lines left =
      entries_idle a older _ (tt, tt) (idle_of a rests older before run _ rest at)
  idle_of a rests h open_inputs (rises b kept turn rest before older run at fit has law) line lines left =
      entries_idle a older (by b (steps.Rose kept ∷ posted_as turn.append (length (mail older)) turn))
      (tt, post_plain b (length (mail older)) turn.append turn) (idle_of a rests older before run _ rest at)
  idle_of a rests h open_inputs (damaged b offset rest before older run at) line lines left =
      entries_idle a older _ (tt, tt) (idle_of a rests older before run _ rest at)
  idle_of a rests h open_inputs (unopened b cause rest before older run at disk) line lines left =
      entries_idle a older _ (tt, tt) (idle_of a rests older before run _ rest at)

  pub no_command_runs_while_a_line_is_left : (h : List Entry) (open_inputs : List Bool) → IsRun h open_inputs
      → (line : Control) (lines : List Control) → controls_left script h ≡ line ∷ lines
      → (a : ℕ) → is_client decl a ≡ true → is_running (deeds a [] h) ≡ false
  no_command_runs_while_a_line_is_left h open_inputs run line lines left a client =
      idle_of a (λ k o r closed quiet done. none_runs k o r closed quiet done a client) h open_inputs run line lines
      left
