-- In each run with falls, over any conduct: while a control line is left no input is open, and the first one that is
-- left has something to do.
use Rattle.std.proofs.Common.{[], ◌≡◌, ℕ, ◌+◌, ◌-◌, ◌<◌, ◌≤◌, Bool, true, false, List, ◌∷◌, ◌++◌, length, Option, Some}
use Rattle.std.proofs.Common.{None, ap, sym, subst, ◌∙◌, arith}
use Rattle.std.specs.Prelude.{drop, set, slice_get, slice_set}
use Rattle.std.specs.Option.{option_map_or}
use Rattle.std.proofs.lemmas.List.{length-replicate, length-set}
use Rattle.std.proofs.lemmas.List.Sums.{fold-append}
use Rattle.qc_decl.specs.Vocabulary.{actors, controller}
use Rattle.qc_decl.specs.declared.declaration.Declaration.{Declaration}
use Rattle.qc_link.specs.Vocabulary.{most_actors, with_cut, without_cut}
use Rattle.qc_msg.specs.declared.record.Record.{Record}
use Rattle.qc_msg.specs.declared.step.Control.{Control}
use Rattle.qc_msg.specs.declared.step.Control.TheVariants as controls
use Rattle.qc_msg.specs.declared.step.Fall.TheVariants as causes
use Rattle.qc_msg.specs.declared.step.Step.{Step}
use Rattle.qc_msg.specs.declared.step.Step.TheVariants as steps
use Rattle.qc_msg.specs.declared.turn.Appended.{Appended}
use Rattle.qc_msg.specs.declared.turn.Appended.TheVariants.{Done, Failed, Stopped}
use Rattle.qc_msg.specs.declared.turn.Turn.{Turn}
use Rattle.qc_msg.specs.Vocabulary.{Deed, Entry, HasRecord, by, mail, marked, posted_as, sents, step_of, told, wrote}
use Rattle.qc_script.specs.Vocabulary.{Inbox, RunsWithFalls, actor_fell, begins, commands_for, control, control_acted}
use Rattle.qc_script.specs.Vocabulary.{controller_step, controls_left, damaged, empty_inbox, falls, inbox, inbox_at}
use Rattle.qc_script.specs.Vocabulary.{is_up, opened, phase, phase_begun, phase_of, posts, rises, takes, unopened}
use Rattle.qc_script.specs.declared.script.PhaseLines.{PhaseLines}
use Rattle.qc_script.specs.declared.script.Script.{Script}
use Rattle.qc_mailbox.proofs.Apart.{one_controls}
use Rattle.qc_mailbox.proofs.Emptied.{after}
use Rattle.qc_mailbox.proofs.Inputs.{between_none, set_long}
use Rattle.qc_mailbox.proofs.Standing.{Breaks, ClosedWhile, Goes, IsSettled, NoneOpen, closes, failed_breaks}
use Rattle.qc_mailbox.proofs.Standing.{fell_by_line, none_left, opened_settled, opened_up, stopped_breaks, tail_goes}
use Rattle.qc_mailbox.proofs.Standing.{wrote_where_down}
use Rattle.qc_mailbox.proofs.LinedSteps.{Lined, fell_calm, step_calm, steps_calm, post_actors, input_actors, rests}
use Rattle.qc_list.proofs.Places.{place_within}

-- one in which a line acts, or a phase begins

opens : (b : ℕ) (inputs : List Bool) (i : Inbox) → length i.up ≡ most_actors → NoneOpen inputs
    → Lined inputs (opened b i)
opens b inputs i long none = record {
  long = ap (λ (v : List Bool). length v) (opened_up b i) ∙ long;
  settled = opened_settled b i;
  closed = closes (opened b i).controls inputs none;
}

acts : (b : ℕ) (inputs : List Bool) (i : Inbox) → length i.up ≡ most_actors → NoneOpen inputs
    → Lined inputs (control_acted b i)
acts b inputs i long none = opens b inputs (record i { controls = drop 1 i.controls }) long none

begun : (b : ℕ) (inputs : List Bool) (i : Inbox) (o : Option PhaseLines) → Lined inputs i → NoneOpen inputs
    → Lined inputs (option_map_or (phase_begun b i) o i)
begun b inputs i None s none = s
begun b inputs i (Some p) s none =
    opens b inputs
    (record i {
      opening = i.opening ++ i.late;
      late = [];
      controls = p.controls;
      commands = i.commands ++ commands_for b p.commands;
    }) s.long none

falls_by_line : (b : ℕ) (inputs : List Bool) (i : Inbox) (r : ℕ) → length i.up ≡ most_actors → NoneOpen inputs
    → Lined inputs (control_acted b (actor_fell b i r))
falls_by_line b inputs i r long none = acts b inputs (actor_fell b i r) ((fell_calm b i r).long ∙ long) none

module _ (script : Script) (b r : ℕ) (inputs : List Bool) (i : Inbox) (s : Lined inputs i) (none : NoneOpen inputs)
    (gone : is_up i.up r ≡ false) where
  breaks : (xs : List Step) → Breaks script b r i xs → Lined inputs (after script b i (by r xs))
  breaks xs broken =
      subst (Lined inputs)
      (sym (broken.is
      ∙ fell_by_line b broken.inbox r broken.cause broken.by_disk
      (ap (λ (v : List Bool). is_up v r) broken.passes.up ∙ gone)))
      (falls_by_line b inputs broken.inbox r (ap (λ (v : List Bool). length v) broken.passes.up ∙ s.long) none)

  wrote_rise : (w : Option Record) (xs : List Step) → HasRecord w
      → after script b i (by r (wrote w ++ xs))
      ≡ after script b (control_acted b (record i { up = set i.up r true })) (by r xs)
  wrote_rise None xs has = absurd has
  wrote_rise (Some written) xs has = ap (λ (j : Inbox). after script b j (by r xs)) (wrote_where_down b i r gone)

  goes : (j : Inbox) (xs : List Step) → Lined inputs j → Goes script b r j xs
      → Lined inputs (after script b j (by r xs))
  goes j xs t g =
      subst (Lined inputs) (sym g.is) (record {
        long = ap (λ (v : List Bool). length v) g.passes.up ∙ t.long;
        settled =
            subst (λ (v : List Bool). IsSettled v g.inbox.controls) (sym g.passes.up)
            (subst (λ (lines : List Control). IsSettled j.up lines) (sym g.passes.controls) t.settled);
        closed = subst (λ (lines : List Control). ClosedWhile lines inputs) (sym g.passes.controls) t.closed;
      })

  risen : (n : ℕ) (turn : Turn) (end : Appended) → HasRecord turn.write
      → Lined inputs (after script b i (by r (posted_as end n turn)))
  risen n turn Done has =
      subst (Lined inputs) (sym (wrote_rise turn.write (sents n turn.sends ++ told turn.told) has))
      (goes (control_acted b (record i { up = set i.up r true })) (sents n turn.sends ++ told turn.told)
      (acts b inputs (record i { up = set i.up r true }) (length-set i.up r true ∙ s.long) none)
      (tail_goes script b r (control_acted b (record i { up = set i.up r true })) n turn))
  risen n turn Failed has = breaks (posted_as Failed n turn) (failed_breaks script b r i n turn)
  risen n turn Stopped has = breaks (posted_as Stopped n turn) (stopped_breaks script b r i n turn)

module _ (lawful : ℕ → List Deed → Turn → Type 0) (fits : ℕ → List Record → Type 0) (decl : Declaration)
    (script : Script) (few : actors decl ≤ most_actors) where
  pub run_long : (h : List Entry) (inputs : List Bool) → RunsWithFalls lawful fits decl script h inputs
      → length inputs ≡ actors decl
  run_long h inputs begins = length-replicate (actors decl) false
  run_long h inputs (takes a g before older run free rdy) = set_long before a true ∙ run_long older before run
  run_long h inputs (posts a turn before older run taken law) = set_long before a false ∙ run_long older before run
  run_long h inputs (phase before older run none left quiet more) = run_long older before run
  run_long h inputs (control line lines step before older run left is) = run_long older before run
  run_long h inputs (falls a lines before older run left) = run_long older before run
  run_long h inputs (rises a records turn lines before older run left fit has law) = run_long older before run
  run_long h inputs (damaged a offset lines before older run left) = run_long older before run
  run_long h inputs (unopened a cause lines before older run left disk) = run_long older before run

  pub actor_within : (h : List Entry) (inputs : List Bool) → RunsWithFalls lawful fits decl script h inputs
      → (a : ℕ) (v : Bool) → slice_get inputs a ≡ Some v → a < most_actors
  actor_within h inputs run a v is =
      let place : a < length inputs = place_within inputs a v is in
      let long : length inputs ≡ actors decl = run_long h inputs run in
      omega arith

  abbrev first : List Entry → Inbox
  first h = inbox script 0 h

  goes_on : (h k : List Entry) (inputs : List Bool) → Lined inputs (after script 0 (inbox script 0 h) k)
      → Lined inputs (inbox script 0 (h ++ k))
  goes_on h k inputs s =
      subst (Lined inputs)
      (sym (fold-append (λ (i : Inbox) (e : Entry). inbox_at script 0 i e.actor e.step) empty_inbox h k)) s

  none_open : (h : List Entry) (inputs : List Bool) (line : Control) (lines : List Control)
      → Lined inputs (inbox script 0 h) → controls_left script h ≡ line ∷ lines → NoneOpen inputs
  none_open h inputs line lines s left = subst (λ (ls : List Control). ClosedWhile ls inputs) left s.closed

  is_gone : (h : List Entry) (inputs : List Bool) (a : ℕ) (lines : List Control) → Lined inputs (inbox script 0 h)
      → controls_left script h ≡ controls.Restart a ∷ lines → is_up (inbox script 0 h).up a ≡ false
  is_gone h inputs a lines s left = subst (λ (ls : List Control). IsSettled (inbox script 0 h).up ls) left s.settled

  acts_next : (h : List Entry) (inputs : List Bool) (line : Control) (lines : List Control) (step : Step)
      → Lined inputs (inbox script 0 h) → controls_left script h ≡ line ∷ lines → controller_step line ≡ Some step
      → Lined inputs (inbox script 0 (h ++ marked (controller decl) step ∷ []))
  acts_next h inputs (controls.Phase k) lines step s left is = absurd (let never : ⊥ = cc in never)
  acts_next h inputs (controls.Cut x y) lines step s left is =
      subst (λ (v : Step). Lined inputs (inbox script 0 (h ++ marked (controller decl) v ∷ [])))
      (let same : steps.Cut x y ≡ step = cc in same)
      (goes_on h (marked (controller decl) (steps.Cut x y) ∷ []) inputs
      (acts 0 inputs (record (inbox script 0 h) { cuts = with_cut (inbox script 0 h).cuts x y }) s.long
      (none_open h inputs (controls.Cut x y) lines s left)))
  acts_next h inputs (controls.Heal x y) lines step s left is =
      subst (λ (v : Step). Lined inputs (inbox script 0 (h ++ marked (controller decl) v ∷ [])))
      (let same : steps.Heal x y ≡ step = cc in same)
      (goes_on h (marked (controller decl) (steps.Heal x y) ∷ []) inputs
      (acts 0 inputs (record (inbox script 0 h) { cuts = without_cut (inbox script 0 h).cuts x y }) s.long
      (none_open h inputs (controls.Heal x y) lines s left)))
  acts_next h inputs (controls.Armed actor kind n) lines step s left is =
      subst (λ (v : Step). Lined inputs (inbox script 0 (h ++ marked (controller decl) v ∷ [])))
      (let same : steps.Armed actor kind n ≡ step = cc in same)
      (goes_on h (marked (controller decl) (steps.Armed actor kind n) ∷ []) inputs
      (acts 0 inputs (inbox script 0 h) s.long (none_open h inputs (controls.Armed actor kind n) lines s left)))
  acts_next h inputs (controls.Crash x) lines step s left is = absurd (let never : ⊥ = cc in never)
  acts_next h inputs (controls.Restart x) lines step s left is = absurd (let never : ⊥ = cc in never)

  pub run_lined : (h : List Entry) (inputs : List Bool) → RunsWithFalls lawful fits decl script h inputs
      → Lined inputs (inbox script 0 h)
  run_lined h inputs begins = record { long = length-replicate most_actors true; settled = tt; closed = tt }
  run_lined h inputs (takes a g before older run free rdy) =
      let s : Lined before (first older) = run_lined older before run in
      goes_on older (marked a (step_of g) ∷ []) (slice_set before a true)
      (rests (slice_set before a true) (first older) (inbox_at script 0 (first older) a (step_of g)) s.long
      (step_calm script 0 (first older) a (step_of g) (input_actors g))
      (one_controls script older 0 a (omega arith) (actor_within older before run a false free)
      ∙ between_none (inbox script a older).controls _ g rdy))
  run_lined h inputs (posts a turn before older run taken law) =
      let s : Lined before (first older) = run_lined older before run in
      goes_on older (by a (posted_as turn.append (length (mail older)) turn)) (slice_set before a false)
      (rests (slice_set before a false) (first older) _ s.long
      (steps_calm script 0 (first older) a (posted_as turn.append (length (mail older)) turn)
      (post_actors turn.append (length (mail older)) turn))
      (none_left (first older).controls before a s.closed taken))
  run_lined h inputs (phase before older run none left quiet more) =
      goes_on older (marked (controller decl) (steps.Phase (phase_of older + 1)) ∷ []) before
      (begun 0 before (first older) (slice_get script.phases ((phase_of older + 1) - 1))
      (run_lined older before run) none)
  run_lined h inputs (control line lines step before older run left is) =
      acts_next older before line lines step (run_lined older before run) left is
  run_lined h inputs (falls a lines before older run left) =
      let s : Lined before (first older) = run_lined older before run in
      goes_on older (marked a (steps.Fell causes.Script None) ∷ []) before
      (falls_by_line 0 before (first older) a s.long (none_open older before (controls.Crash a) lines s left))
  run_lined h inputs (rises a records turn lines before older run left fit has law) =
      let s : Lined before (first older) = run_lined older before run in
      goes_on older (by a (steps.Rose records ∷ posted_as turn.append (length (mail older)) turn)) before
      (risen script 0 a before (first older) s (none_open older before (controls.Restart a) lines s left)
      (is_gone older before a lines s left) (length (mail older)) turn turn.append has)
  run_lined h inputs (damaged a offset lines before older run left) =
      let s : Lined before (first older) = run_lined older before run in
      goes_on older (marked a (steps.Damaged offset) ∷ []) before
      (acts 0 before (first older) s.long (none_open older before (controls.Restart a) lines s left))
  run_lined h inputs (unopened a cause lines before older run left disk) =
      let s : Lined before (first older) = run_lined older before run in
      goes_on older (marked a (steps.Fell cause None) ∷ []) before
      (subst (Lined before) (sym (fell_by_line 0 (first older) a cause disk (is_gone older before a lines s left)))
      (falls_by_line 0 before (first older) a s.long (none_open older before (controls.Restart a) lines s left)))
