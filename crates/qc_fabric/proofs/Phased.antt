-- What leaves the phase: inputs, posts, and lines.
use Rattle.std.proofs.Common.{◌≡◌, ℕ, ◌+◌, ◌≤◌, Bool, List, [], ◌∷◌, ◌++◌, length, length-append, Some, None, refl, ◌∙◌}
use Rattle.std.proofs.Common.{subst, arith}
use Rattle.std.specs.Prelude.{fold}
use Rattle.std.specs.List.{AllByRecursion as Every}
use Rattle.std.proofs.lemmas.List.Sums.{fold-append}
use Rattle.qc_decl.specs.Vocabulary.{controller}
use Rattle.qc_decl.specs.declared.declaration.Declaration.{Declaration}
use Rattle.qc_msg.specs.declared.record.Record.{Record}
use Rattle.qc_msg.specs.declared.step.Fall.TheVariants as causes
use Rattle.qc_msg.specs.declared.step.Control.{Control}
use Rattle.qc_msg.specs.declared.step.Control.TheVariants as controls
use Rattle.qc_msg.specs.declared.step.Input.{Input}
use Rattle.qc_msg.specs.declared.step.Input.TheVariants as given
use Rattle.qc_msg.specs.declared.step.Step.{Step}
use Rattle.qc_msg.specs.declared.step.Step.TheVariants as steps
use Rattle.qc_msg.specs.declared.turn.Turn.{Turn}
use Rattle.qc_msg.specs.Vocabulary.{Deed, Entry, HasRecord, by, deeds, mail, marked, posted_as, step_of}
use Rattle.qc_mailbox.specs.Vocabulary.{TellsWhereDown}
use Rattle.qc_script.specs.Vocabulary.{RunsWithFalls, begins, control, controller_step, damaged, falls, phase, phase_at}
use Rattle.qc_script.specs.Vocabulary.{phase_of, posts, rises, step_of_control, takes, unopened}
use Rattle.qc_script.specs.declared.script.Script.{Script}
use Rattle.qc_fabric.proofs.Plain.{IsPlain, may_end, plain_leaves_phase, posted_plain}
use Rattle.qc_script.proofs.Phases.{phase_taken}

abbrev phase_from : ℕ → List Entry → ℕ
phase_from k h = fold (λ k e. phase_at k e.step) k h

pub phase_more : (h k : List Entry) → phase_of (h ++ k) ≡ phase_from (phase_of h) k
phase_more h k = fold-append (λ k e. phase_at k e.step) 0 h k

from_input : (n a : ℕ) (g : Input) → phase_from n (marked a (step_of g) ∷ []) ≡ n
from_input n a (given.Called command) = refl
from_input n a (given.Got envelope) = refl
from_input n a (given.Lost number) = refl

pub phase_plain : (h : List Entry) (a : ℕ) (xs : List Step) → Every IsPlain xs → phase_of (h ++ by a xs) ≡ phase_of h
phase_plain h a xs each = phase_more h (by a xs) ∙ plain_leaves_phase (phase_of h) a xs each

control_phase : (n a : ℕ) (line : Control) (step : Step) → step_of_control line ≡ Some step
    → phase_from n (marked a step ∷ []) ≡ n
control_phase n a (controls.Phase k) step is = absurd (let no : ⊥ = cc in no)
control_phase n a (controls.Cut x y) step is = let same : steps.Cut x y ≡ step = cc in
    subst (λ (s : Step). phase_from n (marked a s ∷ []) ≡ n) same refl
control_phase n a (controls.Heal x y) step is = let same : steps.Heal x y ≡ step = cc in
    subst (λ (s : Step). phase_from n (marked a s ∷ []) ≡ n) same refl
control_phase n a (controls.Armed actor kind at) step is = absurd (let no : ⊥ = cc in no)
control_phase n a (controls.Crash x) step is = absurd (let no : ⊥ = cc in no)
control_phase n a (controls.Restart x) step is = absurd (let no : ⊥ = cc in no)

pub phase_control : (h : List Entry) (a : ℕ) (line : Control) (step : Step) → step_of_control line ≡ Some step
    → phase_of (h ++ marked a step ∷ []) ≡ phase_of h
phase_control h a line step is = phase_more h (marked a step ∷ []) ∙ control_phase (phase_of h) a line step is

-- a rise
pub phase_rise : (h : List Entry) (a n : ℕ) (records : List Record) (turn : Turn) → HasRecord turn.write
    → phase_of (h ++ by a (steps.Rose records ∷ posted_as turn.append n turn)) ≡ phase_of h
phase_rise h a n records turn has =
    phase_more h (by a (steps.Rose records ∷ posted_as turn.append n turn))
    ∙ plain_leaves_phase (phase_of h) a (posted_as turn.append n turn)
    (posted_plain turn.append n turn (may_end turn.write turn.append has))

-- a line of the controller's
controller_phase : (n a : ℕ) (line : Control) (step : Step) → controller_step line ≡ Some step
    → phase_from n (marked a step ∷ []) ≡ n
controller_phase n a (controls.Phase k) step is = absurd (let no : ⊥ = cc in no)
controller_phase n a (controls.Cut x y) step is = control_phase n a (controls.Cut x y) step is
controller_phase n a (controls.Heal x y) step is = control_phase n a (controls.Heal x y) step is
controller_phase n a (controls.Armed actor kind at) step is = let same : steps.Armed actor kind at ≡ step = cc in
    subst (λ (s : Step). phase_from n (marked a s ∷ []) ≡ n) same refl
controller_phase n a (controls.Crash x) step is = absurd (let no : ⊥ = cc in no)
controller_phase n a (controls.Restart x) step is = absurd (let no : ⊥ = cc in no)

-- each phase has its step

module _ (lawful : ℕ → List Deed → Turn → Type 0) (fits : ℕ → List Record → Type 0) (decl : Declaration)
    (script : Script) (tells : TellsWhereDown lawful) where
  few_more : (h : List Entry) (k : List Entry) → phase_of (h ++ k) ≡ phase_of h → phase_of h ≤ length h
      → phase_of (h ++ k) ≤ length (h ++ k)
  few_more h k same few = omega (arith, same, few, length-append h k)

  pub phase_few : (h : List Entry) (inputs : List Bool) → RunsWithFalls lawful fits decl script h inputs
      → phase_of h ≤ length h
  phase_few h inputs begins = omega arith
  phase_few h inputs (takes a g before older run free rdy) =
      few_more older (marked a (step_of g) ∷ []) (phase_taken older a g) (phase_few older before run)
  phase_few h inputs (posts a turn before older run taken law) =
      few_more older (by a (posted_as turn.append (length (mail older)) turn))
      (phase_plain older a (posted_as turn.append (length (mail older)) turn)
      (posted_plain turn.append (length (mail older)) turn (tells.ends a (deeds a [] older) turn law)))
      (phase_few older before run)
  phase_few h inputs (phase before older run none done quiet more) =
      let few : phase_of older ≤ length older = phase_few older before run in
      let more : phase_of (older ++ marked (controller decl) (steps.Phase (phase_of older + 1)) ∷ [])
      ≡ phase_of older + 1 = phase_more older (marked (controller decl) (steps.Phase (phase_of older + 1)) ∷ []) in
      omega (arith, few, more, length-append older (marked (controller decl) (steps.Phase (phase_of older + 1)) ∷ []))
  phase_few h inputs (control line lines step before older run left is) =
      few_more older (marked (controller decl) step ∷ [])
      (phase_more older (marked (controller decl) step ∷ [])
      ∙ controller_phase (phase_of older) (controller decl) line step is) (phase_few older before run)
  phase_few h inputs (falls a lines before older run left) =
      few_more older (marked a (steps.Fell causes.Script None) ∷ [])
      (phase_more older (marked a (steps.Fell causes.Script None) ∷ [])) (phase_few older before run)
  phase_few h inputs (rises a records turn lines before older run left fit has law) =
      few_more older (by a (steps.Rose records ∷ posted_as turn.append (length (mail older)) turn))
      (phase_rise older a (length (mail older)) records turn has) (phase_few older before run)
  phase_few h inputs (damaged a offset lines before older run left) =
      few_more older (marked a (steps.Damaged offset) ∷ []) (phase_more older (marked a (steps.Damaged offset) ∷ []))
      (phase_few older before run)
  phase_few h inputs (unopened a cause lines before older run left disk) =
      few_more older (marked a (steps.Fell cause None) ∷ []) (phase_more older (marked a (steps.Fell cause None) ∷ []))
      (phase_few older before run)
