-- Steps that call nothing and begin no phase, as those of posts, lines, falls and rises are: what they leave as it is.
use Rattle.std.proofs.Common.{[], ◌≡◌, ℕ, ◌==◌, Bool, true, false, cond, List, ◌∷◌, ◌++◌, Option, Some, None}
use Rattle.std.proofs.Common.{slice_get, refl, sym, ap, ◌∙◌, subst, append_assoc}
use Rattle.std.specs.Prelude.{fold}
use Rattle.std.specs.List.{AllByRecursion as Every, filter_map}
use Rattle.std.proofs.lemmas.List.{append-nil}
use Rattle.std.proofs.lemmas.List.Elements.{filter_map-append}
use Rattle.std.proofs.lemmas.List.Sums.{fold-append}
use Rattle.qc_core.specs.Vocabulary.{is_running, runs_at}
use Rattle.laws_turns.specs.Vocabulary.{call_in, calls_of}
use Rattle.qc_msg.specs.declared.message.Envelope.{Envelope}
use Rattle.qc_msg.specs.declared.step.Step.{Step}
use Rattle.qc_msg.specs.declared.step.Step.TheVariants as steps
use Rattle.qc_msg.specs.Vocabulary.{Entry, deed_at, deeds, heard, mail, Deed, commanded_in}
use Rattle.qc_msg.proofs.DeedsGrow.{deeds-append}
use Rattle.qc_script.specs.Vocabulary.{inbox, phase_at, phase_of}
use Rattle.qc_script.specs.declared.script.Script.{Script}
use Rattle.laws_due.proofs.PlainSteps.{IsPlain, ArePlain, Leaves, same_left, left_then, step_left}
use Rattle.laws_turns.proofs.StepCases.{deed_cases}
use Rattle.qc_mailbox.proofs.Keeping.{inbox_after}

-- entry by entry
pub entries : (P : List Entry → Type 0) (Q : Entry → Type 0)
    → ((h : List Entry) (e : Entry) → Q e → P h → P (h ++ e ∷ [])) → (h k : List Entry) → Every Q k → P h → P (h ++ k)
entries P Q one h [] all is = subst P (sym (append-nil h)) is
entries P Q one h (e ∷ k) all is =
    subst P (append_assoc h (e ∷ []) k) (entries P Q one (h ++ e ∷ []) k all.1 (one h e all.0 is))

pub entries_left : (script : Script) (a : ℕ) (h k : List Entry) → ArePlain k
    → Leaves (inbox script a h) (inbox script a (h ++ k))
entries_left script a h k plain =
    entries (λ (v : List Entry). Leaves (inbox script a h) (inbox script a v)) (λ (e : Entry). IsPlain e.step)
    (λ v e is left. subst (Leaves (inbox script a h)) (sym (inbox_after script a v e))
    (left_then (inbox script a h) (inbox script a v) _ left
    (step_left script a (inbox script a v) e.actor e.step is)))
    h k plain (same_left (inbox script a h) (inbox script a h) refl refl)

-- the phase

-- a plain step calls nothing
plain_at : (step : Step) → IsPlain step → ((k : ℕ) → phase_at k step ≡ k) × (commanded_in step ≡ None)
plain_at (steps.Phase n) is = absurd is
plain_at (steps.Cut x y) is = (λ k. refl, refl)
plain_at (steps.Heal x y) is = (λ k. refl, refl)
plain_at (steps.Armed actor kind at) is = (λ k. refl, refl)
plain_at (steps.Called command) is = absurd is
plain_at (steps.Got n) is = (λ k. refl, refl)
plain_at (steps.Lost n) is = (λ k. refl, refl)
plain_at (steps.Wrote written) is = (λ k. refl, refl)
plain_at (steps.Sent n to message) is = (λ k. refl, refl)
plain_at (steps.Told reply) is = (λ k. refl, refl)
plain_at (steps.Fell cause pending) is = (λ k. refl, refl)
plain_at (steps.Rose records) is = (λ k. refl, refl)
plain_at (steps.Damaged offset) is = (λ k. refl, refl)

pub phase_then : (h : List Entry) (e : Entry) → phase_of (h ++ e ∷ []) ≡ phase_at (phase_of h) e.step
phase_then h e = fold-append (λ (n : ℕ) (e : Entry). phase_at n e.step) 0 h (e ∷ [])

pub entries_phase : (h k : List Entry) → ArePlain k → phase_of (h ++ k) ≡ phase_of h
entries_phase h k plain =
    entries (λ (v : List Entry). phase_of v ≡ phase_of h) (λ (e : Entry). IsPlain e.step)
    (λ v e is same. phase_then v e ∙ (plain_at e.step is).0 (phase_of v) ∙ same) h k plain refl

-- what an actor called, and whether a command of it runs

heard_calls : (o : Option Envelope) → filter_map call_in (heard o ++ []) ≡ []
heard_calls None = refl
heard_calls (Some e) = refl

step_calls : (mine : Bool) (ms : List Envelope) (step : Step) → IsPlain step
    → filter_map call_in (cond mine (deed_at ms step) [] ++ []) ≡ []
step_calls false ms step is = refl
step_calls true ms step is =
    deed_cases ms (λ (s : Step) (ds : List Deed). commanded_in s ≡ None → filter_map call_in (ds ++ []) ≡ [])
    (λ s w m r none. refl) (λ command some. absurd (let never : ⊥ = cc in never))
    (λ n none. heard_calls (slice_get ms n)) (λ n none. refl) (λ written none. refl) (λ n to message none. refl)
    (λ reply none. refl) (λ cause pending none. refl) (λ records none. refl) step (plain_at step is).1

pub deeds_then : (a : ℕ) (h : List Entry) (e : Entry)
    → deeds a [] (h ++ e ∷ []) ≡ deeds a [] h ++ (cond (e.actor == a) (deed_at (mail h) e.step) [] ++ [])
deeds_then a h e = deeds-append a [] h (e ∷ [])

pub entries_calls : (a : ℕ) (h k : List Entry) → ArePlain k → calls_of a (h ++ k) ≡ calls_of a h
entries_calls a h k plain =
    entries (λ (v : List Entry). calls_of a v ≡ calls_of a h) (λ (e : Entry). IsPlain e.step)
    (λ v e is same.
    ap (filter_map call_in) (deeds_then a v e)
    ∙ filter_map-append call_in (deeds a [] v) (cond (e.actor == a) (deed_at (mail v) e.step) [] ++ [])
    ∙ (λ i. same i ++ step_calls (e.actor == a) (mail v) e.step is i) ∙ append-nil (calls_of a h))
    h k plain refl

heard_idle : (o : Option Envelope) → fold runs_at false (heard o ++ []) ≡ false
heard_idle None = refl
heard_idle (Some e) = refl

step_idle : (mine : Bool) (ms : List Envelope) (step : Step) → IsPlain step
    → fold runs_at false (cond mine (deed_at ms step) [] ++ []) ≡ false
step_idle false ms step is = refl
step_idle true ms step is =
    deed_cases ms (λ (s : Step) (ds : List Deed). commanded_in s ≡ None → fold runs_at false (ds ++ []) ≡ false)
    (λ s w m r none. refl) (λ command some. absurd (let never : ⊥ = cc in never))
    (λ n none. heard_idle (slice_get ms n)) (λ n none. refl) (λ written none. refl) (λ n to message none. refl)
    (λ reply none. refl) (λ cause pending none. refl) (λ records none. refl) step (plain_at step is).1

pub entries_idle : (a : ℕ) (h k : List Entry) → ArePlain k → is_running (deeds a [] h) ≡ false
    → is_running (deeds a [] (h ++ k)) ≡ false
entries_idle a h k plain none =
    entries (λ (v : List Entry). is_running (deeds a [] v) ≡ false) (λ (e : Entry). IsPlain e.step)
    (λ v e is idle.
    ap is_running (deeds_then a v e)
    ∙ fold-append runs_at false (deeds a [] v) (cond (e.actor == a) (deed_at (mail v) e.step) [] ++ [])
    ∙ ap (λ (r : Bool). fold runs_at r (cond (e.actor == a) (deed_at (mail v) e.step) [] ++ [])) idle
    ∙ step_idle (e.actor == a) (mail v) e.step is)
    h k plain none
