-- The phase of a history as it grows: inputs don't change it.
use Rattle.std.proofs.Common.{◌≡◌, ℕ, List, [], ◌∷◌, ◌++◌}
use Rattle.std.specs.Prelude.{fold}
use Rattle.std.proofs.lemmas.List.Sums.{fold-append}
use Rattle.qc_msg.specs.declared.step.Input.{Input}
use Rattle.qc_msg.specs.declared.step.Input.TheVariants as inputs
use Rattle.qc_msg.specs.declared.step.Step.TheVariants as steps
use Rattle.qc_msg.specs.Vocabulary.{Entry, marked, step_of}
use Rattle.qc_script.specs.Vocabulary.{phase_at, phase_of}

pub phase_more : (h k : List Entry) → phase_of (h ++ k) ≡ fold (λ (n : ℕ) (e : Entry). phase_at n e.step) (phase_of h) k
phase_more h k = fold-append (λ (n : ℕ) (e : Entry). phase_at n e.step) 0 h k

pub phase_taken : (h : List Entry) (a : ℕ) (taken : Input) → phase_of (h ++ marked a (step_of taken) ∷ []) ≡ phase_of h
phase_taken h a (inputs.Called command) = phase_more h (marked a (steps.Called command) ∷ [])
phase_taken h a (inputs.Got envelope) = phase_more h (marked a (steps.Got envelope.number) ∷ [])
phase_taken h a (inputs.Lost number) = phase_more h (marked a (steps.Lost number) ∷ [])
