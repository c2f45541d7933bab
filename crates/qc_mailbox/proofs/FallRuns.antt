-- In each run with falls: while a control line is left no input is open, the first one has something to do, who is down
-- is so by its deeds too, and nothing waits for it but commands.
use Rattle.std.proofs.Common.{◌≡◌, ℕ, ◌+◌, ◌-◌, ◌<◌, ◌≤◌, Bool, true, false, List, [], ◌∷◌, ◌++◌, length, Some, None}
use Rattle.std.proofs.Common.{refl, sym, subst, ◌∙◌, arith}
use Rattle.std.specs.Prelude.{replicate, slice_get, slice_set}
use Rattle.std.proofs.lemmas.List.{length-replicate}
use Rattle.std.proofs.lemmas.List.Sums.{fold-append}
use Rattle.qc_decl.specs.Vocabulary.{actors, controller}
use Rattle.qc_decl.specs.declared.declaration.Declaration.{Declaration}
use Rattle.qc_link.specs.Vocabulary.{most_actors, with_cut, without_cut}
use Rattle.qc_msg.specs.declared.record.Record.{Record}
use Rattle.qc_msg.specs.declared.step.Control.{Control}
use Rattle.qc_msg.specs.declared.step.Control.TheVariants as controls
use Rattle.qc_msg.specs.declared.step.Fall.TheVariants as causes
use Rattle.qc_msg.specs.declared.step.Step.{Step}
use Rattle.qc_msg.specs.declared.step.Step.TheVariants as steps
use Rattle.qc_msg.specs.declared.turn.Turn.{Turn}
use Rattle.qc_msg.specs.Vocabulary.{Deed, Entry, by, mail, marked, posted_as, step_of}
use Rattle.qc_script.specs.Vocabulary.{Inbox, RunsWithFalls, begins, control, controller_step, controls_left, damaged}
use Rattle.qc_script.specs.Vocabulary.{empty_inbox, everybody, falls, inbox, inbox_at, phase, phase_of, posts, rises}
use Rattle.qc_script.specs.Vocabulary.{takes, unopened}
use Rattle.qc_script.specs.declared.script.Script.{Script}
use Rattle.qc_script.proofs.AllUp.{is_up-everybody}
use Rattle.qc_mailbox.specs.Vocabulary.{TellsWhereDown}
use Rattle.qc_mailbox.proofs.Apart.{one_controls}
use Rattle.qc_mailbox.proofs.Emptied.{after}
use Rattle.qc_mailbox.proofs.Falling.{act_stands, line_falls, none_open, post_stands, restarted, rise_stands}
use Rattle.qc_mailbox.proofs.Falling.{take_stands}
use Rattle.qc_mailbox.proofs.Inputs.{between_none}
use Rattle.qc_mailbox.proofs.Lined.{actor_within}
use Rattle.qc_mailbox.proofs.Standing.{Stands, begins_phase, fell_by_line, none_left}
use Rattle.qc_mailbox.proofs.Downs.{tied_silent}

module _ (lawful : ℕ → List Deed → Turn → Type 0) (fits : ℕ → List Record → Type 0) (decl : Declaration)
    (script : Script) (few : actors decl ≤ most_actors) (tells : TellsWhereDown lawful) where
  module _ (b : ℕ) (low : b < most_actors) where
    goes_on : (h k : List Entry) (inputs : List Bool) → Stands b (h ++ k) inputs (after script b (inbox script b h) k)
        → Stands b (h ++ k) inputs (inbox script b (h ++ k))
    goes_on h k inputs s = subst (Stands b (h ++ k) inputs)
        (sym (fold-append (λ (i : Inbox) (e : Entry). inbox_at script b i e.actor e.step) empty_inbox h k)) s

    -- the lines left are those of the inbox
    lines_are : (h : List Entry) (lines : List Control) → controls_left script h ≡ lines
        → (inbox script b h).controls ≡ lines
    lines_are h lines left = one_controls script h b 0 low (omega arith) ∙ left

    at_first : Stands b [] (replicate (actors decl) false) (inbox script b [])
    at_first = record {
      long = length-replicate most_actors true;
      settled = tt;
      closed = tt;
      tied = λ a within. is_up-everybody everybody a refl;
      emptied = λ down. record { copies = refl; unanswered = refl; lost = refl };
    }

    control_stands : (older : List Entry) (before : List Bool) (line : Control) (lines : List Control) (step : Step)
        → Stands b older before (inbox script b older) → controls_left script older ≡ line ∷ lines
        → controller_step line ≡ Some step
        → Stands b (older ++ marked (controller decl) step ∷ []) before
        (inbox script b (older ++ marked (controller decl) step ∷ []))
    control_stands older before (controls.Phase k) lines step s left is = absurd (let never : ⊥ = cc in never)
    control_stands older before (controls.Cut x y) lines step s left is =
        subst (λ (v : Step). Stands b (older ++ marked (controller decl) v ∷ []) before
        (inbox script b (older ++ marked (controller decl) v ∷ []))) (let same : steps.Cut x y ≡ step = cc in same)
        (goes_on older (marked (controller decl) (steps.Cut x y) ∷ []) before
        (act_stands script b low older before s (controller decl) (steps.Cut x y)
        (record (inbox script b older) { cuts = with_cut (inbox script b older).cuts x y })
        (none_open script b low older before s (controls.Cut x y) lines left) refl
        (λ down. record {
          copies = (s.emptied down).copies;
          unanswered = (s.emptied down).unanswered;
          lost = (s.emptied down).lost;
        }) refl))
    control_stands older before (controls.Heal x y) lines step s left is =
        subst (λ (v : Step). Stands b (older ++ marked (controller decl) v ∷ []) before
        (inbox script b (older ++ marked (controller decl) v ∷ []))) (let same : steps.Heal x y ≡ step = cc in same)
        (goes_on older (marked (controller decl) (steps.Heal x y) ∷ []) before
        (act_stands script b low older before s (controller decl) (steps.Heal x y)
        (record (inbox script b older) { cuts = without_cut (inbox script b older).cuts x y })
        (none_open script b low older before s (controls.Heal x y) lines left) refl
        (λ down. record {
          copies = (s.emptied down).copies;
          unanswered = (s.emptied down).unanswered;
          lost = (s.emptied down).lost;
        }) refl))
    control_stands older before (controls.Armed actor kind n) lines step s left is =
        subst (λ (v : Step). Stands b (older ++ marked (controller decl) v ∷ []) before
        (inbox script b (older ++ marked (controller decl) v ∷ [])))
        (let same : steps.Armed actor kind n ≡ step = cc in same)
        (goes_on older (marked (controller decl) (steps.Armed actor kind n) ∷ []) before
        (act_stands script b low older before s (controller decl) (steps.Armed actor kind n) (inbox script b older)
        (none_open script b low older before s (controls.Armed actor kind n) lines left) refl s.emptied refl))
    control_stands older before (controls.Crash x) lines step s left is = absurd (let never : ⊥ = cc in never)
    control_stands older before (controls.Restart x) lines step s left is = absurd (let never : ⊥ = cc in never)

    pub run_stands : (h : List Entry) (inputs : List Bool) → RunsWithFalls lawful fits decl script h inputs
        → Stands b h inputs (inbox script b h)
    run_stands h inputs begins = at_first
    run_stands h inputs (takes a g before older run free rdy) =
        let s : Stands b older before (inbox script b older) = run_stands older before run in
        let within : a < most_actors = actor_within lawful fits decl script few older before run a false free in
        goes_on older (marked a (step_of g) ∷ []) (slice_set before a true)
        (take_stands script b low older before s a g (slice_set before a true)
        (one_controls script older b a low within ∙ between_none (inbox script a older).controls _ g rdy))
    run_stands h inputs (posts a turn before older run taken law) =
        let s : Stands b older before (inbox script b older) = run_stands older before run in
        let within : a < most_actors = actor_within lawful fits decl script few older before run a true taken in
        goes_on older (by a (posted_as turn.append (length (mail older)) turn)) (slice_set before a false)
        (post_stands script b low older before s lawful tells a (length (mail older)) turn
        (slice_set before a false) within (none_left (inbox script b older).controls before a s.closed taken) law)
    run_stands h inputs (phase before older run none left quiet more) =
        let s : Stands b older before (inbox script b older) = run_stands older before run in
        goes_on older (marked (controller decl) (steps.Phase (phase_of older + 1)) ∷ []) before
        (begins_phase b (older ++ marked (controller decl) (steps.Phase (phase_of older + 1)) ∷ []) before
        (inbox script b older) (slice_get script.phases ((phase_of older + 1) - 1)) s.long none
        (tied_silent (inbox script b older).up (inbox script b older).up older (controller decl)
        (steps.Phase (phase_of older + 1)) s.tied refl refl) s.settled s.emptied)
    run_stands h inputs (control line lines step before older run left is) =
        control_stands older before line lines step (run_stands older before run) left is
    run_stands h inputs (falls a lines before older run left) =
        let s : Stands b older before (inbox script b older) = run_stands older before run in
        goes_on older (marked a (steps.Fell causes.Script None) ∷ []) before
        (line_falls script b low older before s a causes.Script
        (none_open script b low older before s (controls.Crash a) lines left))
    run_stands h inputs (rises a records turn lines before older run left fit has law) =
        let s : Stands b older before (inbox script b older) = run_stands older before run in
        goes_on older (by a (steps.Rose records ∷ posted_as turn.append (length (mail older)) turn)) before
        (rise_stands script b low older before s a (length (mail older)) records turn turn.append
        (restarted script b low older before s a lines left) has
        (none_open script b low older before s (controls.Restart a) lines left))
    run_stands h inputs (damaged a offset lines before older run left) =
        let s : Stands b older before (inbox script b older) = run_stands older before run in
        goes_on older (marked a (steps.Damaged offset) ∷ []) before
        (act_stands script b low older before s a (steps.Damaged offset) (inbox script b older)
        (none_open script b low older before s (controls.Restart a) lines left) refl s.emptied refl)
    run_stands h inputs (unopened a cause lines before older run left disk) =
        let s : Stands b older before (inbox script b older) = run_stands older before run in
        goes_on older (marked a (steps.Fell cause None) ∷ []) before
        (subst (Stands b (older ++ marked a (steps.Fell cause None) ∷ []) before)
        (sym (fell_by_line b (inbox script b older) a cause disk (restarted script b low older before s a lines left)))
        (line_falls script b low older before s a cause
        (none_open script b low older before s (controls.Restart a) lines left)))
