-- What a step mails, case by case: its message, or nothing.
use Rattle.std.proofs.Common.{List, [], Option, Some, None, sym, subst}
use Rattle.qc_msg.specs.declared.step.Step.{Step}
use Rattle.qc_msg.specs.declared.step.Step.TheVariants as steps
use Rattle.qc_msg.specs.Vocabulary.{Deed, Mailed, mailed_in}
use Rattle.laws_turns.proofs.StepCases.{deed_cases}

pub mailed_cases : (P : Step → Option Mailed → Type 0) → ((step : Step) → P step None)
    → ((m : Mailed) → P (steps.Sent m.number m.to m.message) (Some m)) → (step : Step) → P step (mailed_in step)
mailed_cases P none sent step =
    deed_cases [] (λ (s : Step) (ds : List Deed). P s (mailed_in s)) (λ s w m r. subst (P s) (sym m) (none s))
    (λ command. none (steps.Called command)) (λ n. none (steps.Got n)) (λ n. none (steps.Lost n))
    (λ written. none (steps.Wrote written))
    (λ n to message. sent (record { number = n; to = to; message = message })) (λ reply. none (steps.Told reply))
    (λ cause pending. none (steps.Fell cause pending)) (λ records. none (steps.Rose records)) step
