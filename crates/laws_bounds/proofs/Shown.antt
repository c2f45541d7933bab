-- Each run with falls, whose rises fit, has trays that show it: event by event.
use Rattle.std.proofs.Common.{◌≡◌, ◌<◌, ◌≤◌, ℕ, Bool, true, false, List, [], ◌∷◌, ◌++◌, length, Some, None, slice_get}
use Rattle.std.proofs.Common.{refl, sym, ap, ◌∙◌, subst, arith}
use Rattle.std.specs.List.{AllByRecursion as Every}
use Rattle.laws_bounds.proofs.Calling.{turn_failed, turn_short}
use Rattle.laws_bounds.proofs.Rising.{risen_turn_short}
use Rattle.laws_bounds.specs.Vocabulary.{AllFit, AllRiseFit, IsFailedShort, IsRisingShort, IsTurnShort}
use Rattle.qc_core.specs.Vocabulary.{IsLawfulWithFalls}
use Rattle.qc_decl.specs.Vocabulary.{IsAccepted, actors, administrator, controller}
use Rattle.qc_decl.specs.declared.declaration.Declaration.{Declaration}
use Rattle.qc_mailbox.proofs.Acting.{inputs_keep_trays}
use Rattle.qc_mailbox.proofs.Controlling.{controls_keep_trays, damaged_journals_keep_trays, phases_keep_trays}
use Rattle.qc_mailbox.proofs.FallLaws.{lawful_posts_are_of_who_is_up, restarts_down}
use Rattle.qc_mailbox.proofs.FallTrays.{falls_by_lines_keep_trays, posts_keep_trays, rises_keep_trays}
use Rattle.qc_mailbox.proofs.FallTrays.{trays_know_who_is_up}
use Rattle.qc_mailbox.proofs.Keeping.{new_trays_are_kept}
use Rattle.qc_mailbox.specs.Vocabulary.{Inboxes, IsKept, after_control, after_fall_by_line, after_phase, after_post_as}
use Rattle.qc_mailbox.specs.Vocabulary.{after_rising_as, after_take, empty_inboxes, with_control_gone}
use Rattle.qc_link.specs.Vocabulary.{most_actors}
use Rattle.qc_list.proofs.Members.{every-weaker, every-front, every-back}
use Rattle.laws_turns.proofs.Downs.{who_is_down_only_tells}
use Rattle.laws_turns.proofs.Lived.{run_long}
use Rattle.qc_msg.specs.Vocabulary.{Deed, Entry, HasRecord, Rises, by, deeds, mail, marked, posted_as, sends_as}
use Rattle.qc_msg.proofs.DeedsGrow.{deeds-append, deeds-rose}
use Rattle.qc_msg.specs.declared.record.Record.{Record}
use Rattle.qc_msg.specs.declared.step.Control.{Control}
use Rattle.qc_msg.specs.declared.step.Control.TheVariants as controls
use Rattle.qc_msg.specs.declared.step.Fall.TheVariants as causes
use Rattle.qc_msg.specs.declared.step.Step.TheVariants as steps
use Rattle.qc_msg.specs.declared.turn.Appended.{Appended}
use Rattle.qc_msg.specs.declared.turn.Appended.TheVariants as ends
use Rattle.qc_msg.specs.declared.turn.Posting.{Posting}
use Rattle.qc_msg.specs.declared.turn.Turn.{Turn}
use Rattle.qc_script.specs.Vocabulary.{IsControlFor, IsScriptFor, RunsWithFalls, begins, control, controls_left}
use Rattle.qc_script.specs.Vocabulary.{damaged, falls, inbox, is_up, phase, phase_of, posts, rises, takes, unopened}
use Rattle.qc_script.specs.declared.script.PhaseLines.{PhaseLines}
use Rattle.qc_script.specs.declared.script.Script.{Script}
use Rattle.laws_bounds.proofs.SettledLines.{lines_left}
use Rattle.qc_list.proofs.Places.{place_within, some_at}
use Rattle.qc_script.proofs.AllUp.{by_disk_down}

-- what a turn sends goes to actors, for each end of its record
post_receivers : (end : Appended) (turn : Turn) → Every (λ (p : Posting). p.to < most_actors) turn.sends
    → Every (λ (p : Posting). p.to < most_actors) turn.failed_sends
    → Every (λ (p : Posting). p.to < most_actors) (sends_as end turn)
post_receivers ends.Done turn written failed = written
post_receivers ends.Failed turn written failed = failed
post_receivers ends.Stopped turn written failed = tt

module _ (fits : ℕ → List Record → Type 0) (decl : Declaration) (script : Script) (accepted : IsAccepted decl)
    (sound : IsScriptFor decl script) where
  abbrev IsRun : List Entry → List Bool → Type 0
  IsRun h inputs = RunsWithFalls (IsLawfulWithFalls decl) fits decl script h inputs

  abbrev AreShown : List Entry → Type 0
  AreShown h = (kept : Inboxes) × IsKept script h kept

  few : actors decl ≤ most_actors
  few = let s = accepted.sites in let c = accepted.clients in omega arith

  -- who has an open input or none is an actor, and so is whom a line names

  slot_within : (h : List Entry) (inputs : List Bool) → IsRun h inputs → (a : ℕ) (t : Bool)
      → slice_get inputs a ≡ Some t → a < most_actors
  slot_within h inputs run a t slot =
      let low : a < length inputs = place_within inputs a t slot in
      let long : length inputs ≡ actors decl = run_long decl script fits few h inputs run in
      let most : actors decl ≤ most_actors = few in
      omega arith

  actor_within : (a : ℕ) → a ≤ administrator decl → a < most_actors
  actor_within a low = let s = accepted.sites in let c = accepted.clients in omega arith

  line_for : (h : List Entry) (line : Control) (lines : List Control) → controls_left script h ≡ line ∷ lines
      → IsControlFor decl line
  line_for h line lines left = (subst (Every (IsControlFor decl)) left (lines_left decl script sound h)).0

  -- who is up, by what is kept

  up_shown : (h : List Entry) (kept : Inboxes) → IsKept script h kept → (a : ℕ) (t : Bool)
      → is_up (inbox script 0 h).up a ≡ t → is_up kept.up a ≡ t
  up_shown h kept is a t up =
      subst (λ (ups : List Bool). is_up ups a ≡ t) (trays_know_who_is_up script h kept 0 is (omega arith)) up

  module _ (h : List Entry) (inputs : List Bool) (run : IsRun h inputs) (fit : AllRiseFit decl h)
      (old : AreShown h) where
    taken : (a : ℕ) (turn : Turn) → slice_get inputs a ≡ Some true → IsLawfulWithFalls decl a (deeds a [] h) turn
        → AreShown (h ++ by a (posted_as turn.append (length (mail h)) turn))
    taken a turn slot law =
        let within : a < most_actors = slot_within h inputs run a true slot in
        let short : IsTurnShort turn = turn_short decl script fits h inputs run accepted fit a turn slot law in
        let failed : IsFailedShort turn = turn_failed decl script fits h inputs run accepted fit a turn slot law in (
          after_post_as turn.append old.0 a turn,
          posts_keep_trays script h old.0 a turn old.1 within
              (post_receivers turn.append turn short.receivers failed.receivers)
              (lawful_posts_are_of_who_is_up (IsLawfulWithFalls decl) fits decl script h inputs old.0 few
              (who_is_down_only_tells decl) run old.1 a turn within law),
        )

    risen : (a : ℕ) (rs : List Record) (turn : Turn) (lines : List Control)
        → controls_left script h ≡ controls.Restart a ∷ lines → HasRecord turn.write → AllFit decl a 0 rs
        → IsLawfulWithFalls decl a (deeds a [] (h ++ marked a (steps.Rose rs) ∷ [])) turn
        → AreShown (h ++ by a (steps.Rose rs ∷ posted_as turn.append (length (mail h)) turn))
    risen a rs turn lines left has records_fit law =
        let rose : deeds a [] (h ++ marked a (steps.Rose rs) ∷ []) ≡ deeds a [] h ++ Rises rs ∷ [] =
        deeds-append a [] h (by a (steps.Rose rs ∷ []))
        ∙ ap (λ (v : List Deed). deeds a [] h ++ v) (deeds-rose a (mail h) rs) in
        let short : IsRisingShort decl rs turn =
        risen_turn_short decl a (deeds a [] h) rs turn records_fit
        (subst (λ (ds : List Deed). IsLawfulWithFalls decl a ds turn) rose law) in
        let receivers : Every (λ (p : Posting). p.to < most_actors) turn.sends =
        every-weaker (λ (p : Posting). p.to < actors decl) (λ (p : Posting). p.to < most_actors)
        (λ p low. let most : actors decl ≤ most_actors = few in omega arith) turn.sends short.receivers in
        let none : Every (λ (p : Posting). p.to < most_actors) turn.failed_sends =
        subst (Every (λ (p : Posting). p.to < most_actors)) (sym short.failed_sends) tt in (
          after_rising_as turn.append old.0 a turn,
          rises_keep_trays script h old.0 a rs turn old.1 (actor_within a (line_for h (controls.Restart a) lines left))
              (up_shown h old.0 old.1 a false (restarts_down
              (IsLawfulWithFalls decl) fits decl script h inputs few run a lines left)) has
              (post_receivers turn.append turn receivers none),
        )

  pub runs_with_falls_have_trays : (h : List Entry) (inputs : List Bool) → IsRun h inputs → AllRiseFit decl h
      → AreShown h
  runs_with_falls_have_trays h inputs begins fit = (empty_inboxes script, new_trays_are_kept script)
  runs_with_falls_have_trays h inputs (takes a g slots older run free rdy) fit =
      let old : AreShown older = runs_with_falls_have_trays older slots run (every-front _ older _ fit) in (
        after_take old.0 a,
        inputs_keep_trays decl script older old.0 a g old.1 (slot_within older slots run a false free) rdy,
      )
  runs_with_falls_have_trays h inputs (posts a turn slots older run slot law) fit =
      taken older slots run (every-front _ older _ fit)
      (runs_with_falls_have_trays older slots run (every-front _ older _ fit)) a turn slot law
  runs_with_falls_have_trays h inputs (phase slots older run idle done quiet more) fit =
      let old : AreShown older = runs_with_falls_have_trays older slots run (every-front _ older _ fit) in
      let next : (lines : PhaseLines) × (slice_get script.phases (phase_of older) ≡ Some lines) =
      some_at script.phases (phase_of older) more in (
        after_phase old.0 next.0,
        phases_keep_trays script older old.0 (phase_of older) next.0 (controller decl) old.1 next.1,
      )
  runs_with_falls_have_trays h inputs (control line lines step slots older run left acts) fit =
      let old : AreShown older = runs_with_falls_have_trays older slots run (every-front _ older _ fit) in
      (after_control old.0 line, controls_keep_trays script older old.0 line step (controller decl) old.1 acts)
  runs_with_falls_have_trays h inputs (falls a lines slots older run left) fit =
      let old : AreShown older = runs_with_falls_have_trays older slots run (every-front _ older _ fit) in (
        after_fall_by_line old.0 a,
        falls_by_lines_keep_trays script older old.0 a causes.Script None old.1
            (actor_within a (line_for older (controls.Crash a) lines left)) refl,
      )
  runs_with_falls_have_trays h inputs (rises a rs turn lines slots older run left fit_actor has law) fit =
      risen older slots run (every-front _ older _ fit)
      (runs_with_falls_have_trays older slots run (every-front _ older _ fit)) a rs turn lines left has
      (every-back _ older (by a (steps.Rose rs ∷ posted_as turn.append (length (mail older)) turn)) fit).0 law
  runs_with_falls_have_trays h inputs (damaged a offset lines slots older run left) fit =
      let old : AreShown older = runs_with_falls_have_trays older slots run (every-front _ older _ fit) in
      (with_control_gone old.0, damaged_journals_keep_trays script older old.0 a offset old.1)
  runs_with_falls_have_trays h inputs (unopened a cause lines slots older run left disk) fit =
      let old : AreShown older = runs_with_falls_have_trays older slots run (every-front _ older _ fit) in
      let down : is_up old.0.up a ≡ false = up_shown older old.0 old.1 a false
      (restarts_down (IsLawfulWithFalls decl) fits decl script older slots few run a lines left) in (
        after_fall_by_line old.0 a,
        falls_by_lines_keep_trays script older old.0 a cause None old.1
            (actor_within a (line_for older (controls.Restart a) lines left))
            (by_disk_down (is_up old.0.up a) cause down disk),
      )
