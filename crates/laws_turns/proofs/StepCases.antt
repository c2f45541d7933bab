-- What a step does, and which step a line of control makes, case by case.
use Rattle.std.proofs.Common.{◌≡◌, ℕ, List, [], ◌∷◌, Option, Some, None, refl, subst}
use Rattle.std.specs.Prelude.{slice_get}
use Rattle.qc_msg.specs.declared.message.Envelope.{Envelope}
use Rattle.qc_msg.specs.declared.message.Message.{Message}
use Rattle.qc_msg.specs.declared.record.Record.{Record}
use Rattle.qc_msg.specs.declared.reply.Reply.{Reply}
use Rattle.qc_msg.specs.declared.step.Command.{Command}
use Rattle.qc_msg.specs.declared.step.Fall.{Fall}
use Rattle.qc_msg.specs.declared.step.Input.TheVariants as inputs
use Rattle.qc_msg.specs.declared.step.Step.{Step}
use Rattle.qc_msg.specs.declared.step.Step.TheVariants as steps
use Rattle.qc_msg.specs.Vocabulary.{Deed, Falls, Rises, Sends, Takes, Tells, Writes, deed_at, heard, mailed_in, rose_in}
use Rattle.qc_msg.specs.Vocabulary.{wrote_in, Arming}
use Rattle.qc_msg.specs.declared.step.Control.{Control}
use Rattle.qc_msg.specs.declared.step.Control.TheVariants as controls
use Rattle.qc_script.specs.Vocabulary.{controller_step, step_of_control}

-- a step that is no deed neither writes, nor sends, nor rises
pub deed_cases : (ms : List Envelope) (P : Step → List Deed → Type 0)
    → ((step : Step) → wrote_in step ≡ None → mailed_in step ≡ None → rose_in step ≡ None → P step [])
    → ((command : Command) → P (steps.Called command) (Takes (inputs.Called command) ∷ []))
    → ((n : ℕ) → P (steps.Got n) (heard (slice_get ms n)))
    → ((n : ℕ) → P (steps.Lost n) (Takes (inputs.Lost n) ∷ []))
    → ((written : Record) → P (steps.Wrote written) (Writes written ∷ []))
    → ((n to : ℕ) (message : Message) → P (steps.Sent n to message) (Sends n to message ∷ []))
    → ((reply : Reply) → P (steps.Told reply) (Tells reply ∷ []))
    → ((cause : Fall) (pending : Option Record) → P (steps.Fell cause pending) (Falls cause pending ∷ []))
    → ((records : List Record) → P (steps.Rose records) (Rises records ∷ []))
    → (step : Step) → P step (deed_at ms step)
deed_cases ms P none calls gets loses writes sends says falls rises (steps.Phase k) =
    none (steps.Phase k) refl refl refl
deed_cases ms P none calls gets loses writes sends says falls rises (steps.Cut x y) =
    none (steps.Cut x y) refl refl refl
deed_cases ms P none calls gets loses writes sends says falls rises (steps.Heal x y) =
    none (steps.Heal x y) refl refl refl
deed_cases ms P none calls gets loses writes sends says falls rises (steps.Armed actor kind at) =
    none (steps.Armed actor kind at) refl refl refl
deed_cases ms P none calls gets loses writes sends says falls rises (steps.Called command) = calls command
deed_cases ms P none calls gets loses writes sends says falls rises (steps.Got n) = gets n
deed_cases ms P none calls gets loses writes sends says falls rises (steps.Lost n) = loses n
deed_cases ms P none calls gets loses writes sends says falls rises (steps.Wrote written) = writes written
deed_cases ms P none calls gets loses writes sends says falls rises (steps.Sent n to message) = sends n to message
deed_cases ms P none calls gets loses writes sends says falls rises (steps.Told reply) = says reply
deed_cases ms P none calls gets loses writes sends says falls rises (steps.Fell cause pending) = falls cause pending
deed_cases ms P none calls gets loses writes sends says falls rises (steps.Rose records) = rises records
deed_cases ms P none calls gets loses writes sends says falls rises (steps.Damaged offset) =
    none (steps.Damaged offset) refl refl refl

-- a line that has a step of the controller cuts a link or heals it, or arms a disk; in runs without falls it arms none

pub controller_cases : (P : Step → Type 0) → ((a b : ℕ) → P (steps.Cut a b)) → ((a b : ℕ) → P (steps.Heal a b))
    → ((x : Arming) → P (steps.Armed x.actor x.kind x.at)) → (line : Control) (step : Step)
    → controller_step line ≡ Some step → P step
controller_cases P cut heal armed (controls.Phase k) step is = absurd (let never : ⊥ = cc in never)
controller_cases P cut heal armed (controls.Cut a b) step is =
    subst P (let same : steps.Cut a b ≡ step = cc in same) (cut a b)
controller_cases P cut heal armed (controls.Heal a b) step is =
    subst P (let same : steps.Heal a b ≡ step = cc in same) (heal a b)
controller_cases P cut heal armed (controls.Armed actor kind at) step is =
    subst P (let same : steps.Armed actor kind at ≡ step = cc in same)
    (armed (record { actor = actor; kind = kind; at = at }))
controller_cases P cut heal armed (controls.Crash a) step is = absurd (let never : ⊥ = cc in never)
controller_cases P cut heal armed (controls.Restart a) step is = absurd (let never : ⊥ = cc in never)

pub control_cases : (P : Step → Type 0) → ((a b : ℕ) → P (steps.Cut a b)) → ((a b : ℕ) → P (steps.Heal a b))
    → (line : Control) (step : Step) → step_of_control line ≡ Some step → P step
control_cases P cut heal (controls.Phase k) step is = absurd (let never : ⊥ = cc in never)
control_cases P cut heal (controls.Cut a b) step is =
    subst P (let same : steps.Cut a b ≡ step = cc in same) (cut a b)
control_cases P cut heal (controls.Heal a b) step is =
    subst P (let same : steps.Heal a b ≡ step = cc in same) (heal a b)
control_cases P cut heal (controls.Armed actor kind at) step is = absurd (let never : ⊥ = cc in never)
control_cases P cut heal (controls.Crash a) step is = absurd (let never : ⊥ = cc in never)
control_cases P cut heal (controls.Restart a) step is = absurd (let never : ⊥ = cc in never)
