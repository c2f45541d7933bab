-- The control lines that are left are the script's.
use Rattle.std.proofs.Common.{◌≡◌, ℕ, ◌-◌, ◌==◌, Bool, true, false, if◌then◌else◌, List, [], ◌∷◌, Option, Some, None}
use Rattle.std.proofs.Common.{refl, sym, subst}
use Rattle.std.specs.Prelude.{drop, fold, set, slice_get}
use Rattle.std.specs.List.{AllByRecursion as Every}
use Rattle.std.specs.Option.{option_map_or}
use Rattle.qc_decl.specs.declared.declaration.Declaration.{Declaration}
use Rattle.qc_list.proofs.Members.{every-at, every-weaker}
use Rattle.qc_msg.specs.declared.step.Control.{Control}
use Rattle.qc_msg.specs.declared.step.Step.{Step}
use Rattle.qc_msg.specs.declared.step.Step.TheVariants as steps
use Rattle.qc_msg.specs.Vocabulary.{Entry}
use Rattle.qc_script.specs.Vocabulary.{Inbox, IsControlFor, IsPhaseFor, IsScriptFor, acting, actor_fell, command_called}
use Rattle.qc_script.specs.Vocabulary.{control_acted, controls_left, copy_taken, does_nothing, emptied, empty_inbox}
use Rattle.qc_script.specs.Vocabulary.{inbox_at, is_by_line, is_up, loss_taken, opened, phase_begun, reply_told}
use Rattle.qc_script.specs.declared.script.PhaseLines.{PhaseLines}
use Rattle.qc_script.specs.declared.script.Script.{Script}
use Rattle.qc_script.proofs.InboxesSend.{opened_keeps, sends_does, by_test}
use Rattle.laws_bounds.specs.Vocabulary.{AreControlsBelow, IsControlBelow}

module _ (P : Control → Type 0) where
  abbrev Has : Inbox → Type 0
  Has i = Every P i.controls

  acting_has : (up : List Bool) (lines : List Control) → Every P lines → Every P (acting up lines)
  acting_has up [] has = tt
  acting_has up (c ∷ cs) has = by (acting_has up cs has.1) (does_nothing up c)
    where
      by : Every P (acting up cs) → (t : Bool) → Every P (if t then acting up cs else c ∷ cs)
      by rest true = rest
      by rest false = has

  opened_has : (a : ℕ) (i : Inbox) → Has i → Has (opened a i)
  opened_has a i has =
      subst (Every P)
      (sym (opened_keeps a (acting i.up i.controls) (record i { controls = acting i.up i.controls })).controls)
      (acting_has i.up i.controls has)

  dropped : (lines : List Control) → Every P lines → Every P (drop 1 lines)
  dropped [] has = tt
  dropped (c ∷ cs) has = has.1

  acted_has : (a : ℕ) (i : Inbox) → Has i → Has (control_acted a i)
  acted_has a i has = opened_has a (record i { controls = drop 1 i.controls }) (dropped i.controls has)

  emptied_has : (t : Bool) (i : Inbox) → Has i → Has (emptied t i)
  emptied_has true i has = has
  emptied_has false i has = has

  fell_has : (a : ℕ) (i : Inbox) (r : ℕ) → Has i → Has (actor_fell a i r)
  fell_has a i r has = emptied_has (r == a) _ has

  phase_has : (a : ℕ) (i : Inbox) (phase : Option PhaseLines)
      → ((p : PhaseLines) → phase ≡ Some p → Every P p.controls) → Has i → Has (option_map_or (phase_begun a i) phase i)
  phase_has a i None lines has = has
  phase_has a i (Some p) lines has = opened_has a _ (lines p refl)

  module _ (script : Script) (all : Every (λ (phase : PhaseLines). Every P phase.controls) script.phases) where
    step_has : (a : ℕ) (i : Inbox) (by : ℕ) (step : Step) → Has i → Has (inbox_at script a i by step)
    step_has a i by (steps.Phase k) has =
        phase_has a i (slice_get script.phases (k - 1))
        (λ p is. every-at (λ (phase : PhaseLines). Every P phase.controls) script.phases (k - 1) p all is) has
    step_has a i by (steps.Cut x y) has = acted_has a _ has
    step_has a i by (steps.Heal x y) has = acted_has a _ has
    step_has a i by (steps.Armed actor kind at) has = acted_has a i has
    step_has a i by (steps.Called command) has = by_test Has (by == a) (command_called i) i has has
    step_has a i by (steps.Got n) has = by_test Has (by == a) (copy_taken i) i has has
    step_has a i by (steps.Lost n) has = by_test Has (by == a) (loss_taken i) i has has
    step_has a i by (steps.Wrote written) has =
        by_test Has (is_up i.up by) i (control_acted a (record i { up = set i.up by true })) has
        (acted_has a (record i { up = set i.up by true }) has)
    step_has a i by (steps.Sent n to message) has =
        subst (Every P)
        (sym (sends_does script.links a i (record { number = n; from = by; to = to; message = message })).controls) has
    step_has a i by (steps.Told reply) has = by_test Has (by == a) (reply_told i) i has has
    step_has a i by (steps.Fell cause pending) has =
        by_test Has (is_by_line (is_up i.up by) cause) (control_acted a (actor_fell a i by)) (actor_fell a i by)
        (acted_has a (actor_fell a i by) (fell_has a i by has)) (fell_has a i by has)
    step_has a i by (steps.Rose records) has = has
    step_has a i by (steps.Damaged offset) has = acted_has a i has

    steps_have : (a : ℕ) (i : Inbox) (h : List Entry) → Has i
        → Has (fold (λ (j : Inbox) (e : Entry). inbox_at script a j e.actor e.step) i h)
    steps_have a i [] has = has
    steps_have a i (e ∷ h) has =
        steps_have a (inbox_at script a i e.actor e.step) h (step_has a i e.actor e.step has)

    pub next_line : (h : List Entry) (line : Control) → slice_get (controls_left script h) 0 ≡ Some line → P line
    next_line h line is = every-at P (controls_left script h) 0 line (steps_have 0 empty_inbox h tt) is

lines_sound : (decl : Declaration) (script : Script) → IsScriptFor decl script
    → Every (λ (p : PhaseLines). Every (IsControlFor decl) p.controls) script.phases
lines_sound decl script sound =
    every-weaker (IsPhaseFor decl) (λ (p : PhaseLines). Every (IsControlFor decl) p.controls) (λ p all. all.0)
    script.phases sound.phases

pub lines_left : (decl : Declaration) (script : Script) → IsScriptFor decl script → (h : List Entry)
    → Every (IsControlFor decl) (controls_left script h)
lines_left decl script sound h =
    steps_have (IsControlFor decl) script (lines_sound decl script sound) 0 empty_inbox h tt

pub next_sound : (decl : Declaration) (script : Script) (h : List Entry) (line : Control) → IsScriptFor decl script
    → slice_get (controls_left script h) 0 ≡ Some line → IsControlFor decl line
next_sound decl script h line sound is =
    next_line (IsControlFor decl) script (lines_sound decl script sound) h line is

pub next_passes : (test : Control → Bool) (script : Script) (h : List Entry) (line : Control)
    → Every (λ (phase : PhaseLines). Every (λ (c : Control). test c ≡ true) phase.controls) script.phases
    → slice_get (controls_left script h) 0 ≡ Some line → test line ≡ true
next_passes test script h line all is = next_line (λ (c : Control). test c ≡ true) script all h line is

pub next_below : (n : ℕ) (script : Script) (h : List Entry) (line : Control) → AreControlsBelow n script
    → slice_get (controls_left script h) 0 ≡ Some line → IsControlBelow n line
next_below n script h line below is = next_line (IsControlBelow n) script below h line is
