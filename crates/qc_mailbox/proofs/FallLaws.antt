-- What the laws of runs with falls say, from what stands at each event.
use Rattle.std.proofs.Common.{◌≡◌, ℕ, ◌<◌, ◌≤◌, ◌∙◌, ◌&&◌, Bool, true, false, not, cond, List, [], ◌∷◌, Option, Some}
use Rattle.std.proofs.Common.{None, refl, ap, sym, subst, arith}
use Rattle.std.specs.Prelude.{slice_get}
use Rattle.qc_decl.specs.Vocabulary.{actors}
use Rattle.qc_decl.specs.declared.declaration.Declaration.{Declaration}
use Rattle.qc_link.specs.Vocabulary.{most_actors}
use Rattle.qc_msg.specs.declared.message.Envelope.{Envelope}
use Rattle.qc_msg.specs.declared.record.Record.{Record}
use Rattle.qc_msg.specs.declared.step.Command.{Command}
use Rattle.qc_msg.specs.declared.step.Control.{Control}
use Rattle.qc_msg.specs.declared.step.Control.TheVariants as controls
use Rattle.qc_msg.specs.declared.step.Input.{Input}
use Rattle.qc_msg.specs.declared.step.Input.TheVariants as inputs
use Rattle.qc_msg.specs.declared.turn.Turn.{Turn}
use Rattle.qc_msg.specs.declared.turn.Appended.{Appended}
use Rattle.qc_msg.specs.declared.turn.Appended.TheVariants.{Done, Failed, Stopped}
use Rattle.qc_msg.specs.Vocabulary.{Deed, Entry, MayEnd, deeds}
use Rattle.qc_script.specs.Vocabulary.{Inbox, Runs, RunsWithFalls, after_controls, command_in, controls_left}
use Rattle.qc_script.specs.Vocabulary.{first_command, first_copy, first_lost, inbox, is_up, ready, takes_commands}
use Rattle.qc_script.specs.declared.script.Script.{Script}
use Rattle.qc_mailbox.specs.Vocabulary.{Inboxes, IsCommand, IsEmptied, IsKept, MayPost, MayWrite, TellsWhereDown}
use Rattle.qc_mailbox.specs.Vocabulary.{is_down}
use Rattle.qc_script.proofs.AllUp.{nobody_is_down_without_falls}
use Rattle.qc_mailbox.proofs.Apart.{one_controls}
use Rattle.qc_mailbox.proofs.FallRuns.{run_stands}
use Rattle.qc_mailbox.proofs.FallTrays.{trays_know_who_is_up}
use Rattle.qc_mailbox.proofs.LinedSteps.{Lined}
use Rattle.qc_mailbox.proofs.Lined.{run_lined}
use Rattle.qc_mailbox.proofs.Standing.{ClosedWhile, IsSettled, Stands}
use Rattle.qc_list.proofs.Booleans.{not_false}

-- between lines

pub nothing_is_ready_while_a_line_is_left : (decl : Declaration) (script : Script) (h : List Entry) (line : Control)
    (lines : List Control)
    → controls_left script h ≡ line ∷ lines → (a : ℕ) → a < most_actors → ready decl script a h ≡ None
nothing_is_ready_while_a_line_is_left decl script h line lines left a within =
    ap (λ (cs : List Control). after_controls cs
    (first_copy (inbox script a h).copies (first_lost (inbox script a h).lost
    (command_in decl a (inbox script a h)))))
    (one_controls script h a 0 within (omega arith) ∙ left)

first_commanded : (t : Bool) (commands : List Command) (g : Input) → cond t (first_command commands) None ≡ Some g
    → IsCommand g
first_commanded true [] g is = absurd (let never : ⊥ = cc in never)
first_commanded true (c ∷ commands) g is = let same : inputs.Called c ≡ g = cc in subst IsCommand same tt
first_commanded false commands g is = absurd (let never : ⊥ = cc in never)

commanded : (decl : Declaration) (a : ℕ) (i : Inbox) (cs : List Control) (es : List Envelope) (ns : List ℕ) (g : Input)
    → es ≡ [] → ns ≡ [] → after_controls cs (first_copy es (first_lost ns (command_in decl a i))) ≡ Some g → IsCommand g
commanded decl a i (c ∷ cs) es ns g copies lost is = absurd (let never : ⊥ = cc in never)
commanded decl a i [] (e ∷ es) ns g copies lost is = absurd (let never : ⊥ = cc in never)
commanded decl a i [] [] (n ∷ ns) g copies lost is = absurd (let never : ⊥ = cc in never)
commanded decl a i [] [] [] g copies lost is = first_commanded (takes_commands decl a && not i.busy) i.commands g is

module _ (lawful : ℕ → List Deed → Turn → Type 0) (fits : ℕ → List Record → Type 0) (decl : Declaration)
    (script : Script) (h : List Entry) (open_inputs : List Bool)
    (few : actors decl ≤ most_actors) (run : RunsWithFalls lawful fits decl script h open_inputs) where
  lined : Lined open_inputs (inbox script 0 h)
  lined = run_lined lawful fits decl script few h open_inputs run

  pub no_input_is_open_while_a_line_is_left : (line : Control) (lines : List Control)
      → controls_left script h ≡ line ∷ lines → (a : ℕ)
      → slice_get open_inputs a ≡ Some true → ⊥
  no_input_is_open_while_a_line_is_left line lines left =
      subst (λ (cs : List Control). ClosedWhile cs open_inputs) left lined.closed

  pub crashes_up : (a : ℕ) (lines : List Control) → controls_left script h ≡ controls.Crash a ∷ lines
      → is_up (inbox script 0 h).up a ≡ true
  crashes_up a lines left = not_false (is_up (inbox script 0 h).up a)
      (subst (λ (cs : List Control). IsSettled (inbox script 0 h).up cs) left lined.settled)

  pub restarts_down : (a : ℕ) (lines : List Control) → controls_left script h ≡ controls.Restart a ∷ lines
      → is_up (inbox script 0 h).up a ≡ false
  restarts_down a lines left = subst (λ (cs : List Control). IsSettled (inbox script 0 h).up cs) left lined.settled

module _ (lawful : ℕ → List Deed → Turn → Type 0) (fits : ℕ → List Record → Type 0) (decl : Declaration)
    (script : Script) (h : List Entry) (open_inputs : List Bool)
    (few : actors decl ≤ most_actors) (tells : TellsWhereDown lawful)
    (run : RunsWithFalls lawful fits decl script h open_inputs) where
  stands : (b : ℕ) → b < most_actors → Stands b h open_inputs (inbox script b h)
  stands b low = run_stands lawful fits decl script few tells b low h open_inputs run

  pub inboxes_know_who_is_up : (a b : ℕ) → a < most_actors → b < most_actors
      → is_up (inbox script b h).up a ≡ not (is_down (deeds a [] h))
  inboxes_know_who_is_up a b within low = (stands b low).tied a within

  pub down_emptied : (a : ℕ) → a < most_actors → is_down (deeds a [] h) ≡ true → IsEmptied (inbox script a h)
  down_emptied a within down = (stands a within).emptied (inboxes_know_who_is_up a a within within ∙ ap not down)

  pub down_commanded : (a : ℕ) → a < most_actors → is_down (deeds a [] h) ≡ true → (g : Input)
      → ready decl script a h ≡ Some g → IsCommand g
  down_commanded a within down g is =
      commanded decl a (inbox script a h) (inbox script a h).controls (inbox script a h).copies
      (inbox script a h).lost g (down_emptied a within down).copies (down_emptied a within down).lost is

-- who posts is up, or its turn has no record

writes_up : (up : Bool) (w : Option Record) → up ≡ true → MayWrite up w
writes_up up None is = tt
writes_up up (Some written) is = is

pub up_posts : (up : Bool) (end : Appended) (w : Option Record) → up ≡ true → MayPost up end w
up_posts up Done w is = writes_up up w is
up_posts up Failed w is = is
up_posts up Stopped w is = is

silent_posts : (up : Bool) (end : Appended) (w : Option Record) → w ≡ None → MayEnd w end → MayPost up end w
silent_posts up Done None none may = tt
silent_posts up Failed None none may = absurd may
silent_posts up Stopped None none may = absurd may
silent_posts up end (Some w) none may = absurd (let never : ⊥ = cc in never)

pub lawful_posts_are_of_who_is_up : (lawful : ℕ → List Deed → Turn → Type 0) (fits : ℕ → List Record → Type 0)
    (decl : Declaration)
    (script : Script) (h : List Entry) (open_inputs : List Bool) (kept : Inboxes)
    → actors decl ≤ most_actors → TellsWhereDown lawful → RunsWithFalls lawful fits decl script h open_inputs
    → IsKept script h kept
    → (a : ℕ) (turn : Turn) → a < most_actors → lawful a (deeds a [] h) turn
    → MayPost (is_up kept.up a) turn.append turn.write
lawful_posts_are_of_who_is_up lawful fits decl script h open_inputs kept few tells run is a turn within law =
    by (is_down (deeds a [] h)) refl
  where
    tie : is_up kept.up a ≡ not (is_down (deeds a [] h))
    tie = ap (λ (up : List Bool). is_up up a) (sym (trays_know_who_is_up script h kept a is within))
        ∙ inboxes_know_who_is_up lawful fits decl script h open_inputs few tells run a a within within

    by : (t : Bool) → is_down (deeds a [] h) ≡ t → MayPost (is_up kept.up a) turn.append turn.write
    by true down = silent_posts (is_up kept.up a) turn.append turn.write
        (tells.writes_none a (deeds a [] h) turn law down) (tells.ends a (deeds a [] h) turn law)
    by false up = up_posts (is_up kept.up a) turn.append turn.write (tie ∙ ap not up)

-- in a run without falls everybody is
pub all_up : (lawful : ℕ → List Deed → Turn → Type 0) (decl : Declaration) (script : Script) (h : List Entry)
    (open_inputs : List Bool) (kept : Inboxes) (a : ℕ)
    → Runs lawful decl script h open_inputs → IsKept script h kept → is_up kept.up a ≡ true
all_up lawful decl script h open_inputs kept a run is =
    ap (λ (up : List Bool). is_up up a) (sym (trays_know_who_is_up script h kept 0 is (omega arith)))
    ∙ nobody_is_down_without_falls lawful decl script h open_inputs 0 a run
