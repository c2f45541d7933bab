-- A message of a history is a deed of its sender.
use Rattle.std.proofs.Common.{◌≡◌, ℕ, List, [], ◌∷◌, Option, Some, None, option_to_list, option_and_then, inl, inr, sym}
use Rattle.std.proofs.Common.{ap, subst}
use Rattle.qc_list.specs.Vocabulary.{In}
use Rattle.qc_msg.specs.declared.message.Envelope.{Envelope}
use Rattle.qc_msg.specs.declared.step.Step.{Step}
use Rattle.qc_msg.specs.declared.message.Message.{Message}
use Rattle.qc_msg.specs.Vocabulary.{Deed, Mailed, Sends, deed_at, envelope_at, mailed_in, rose_in, wrote_in}
use Rattle.laws_turns.proofs.StepCases.{deed_cases}

record IsSent (a : ℕ) (ds : List Deed) (e : Envelope) : Type 0 where
  from : e.from ≡ a
  deed : ds ≡ Sends e.number e.to e.message ∷ []

step_sent : (a : ℕ) (ms : List Envelope) (step : Step) (e : Envelope) → In e (option_to_list (envelope_at a step))
    → IsSent a (deed_at ms step) e
step_sent a ms step e among =
    deed_cases ms (λ step ds. In e (option_to_list (envelope_at a step)) → IsSent a ds e) rest
    (λ command never. absurd never) (λ n never. absurd never) (λ n never. absurd never)
    (λ written never. absurd never) sends (λ reply never. absurd never) (λ cause pending never. absurd never)
    (λ kept never. absurd never) step among
  where
    rest : (step : Step) → wrote_in step ≡ None → mailed_in step ≡ None → rose_in step ≡ None
        → In e (option_to_list (envelope_at a step)) → IsSent a [] e
    rest step unwritten unsent unrisen never =
        absurd (subst (λ (o : Option Mailed). In e (option_to_list (option_and_then (λ (m : Mailed).
        Some (record { number = m.number; from = a; to = m.to; message = m.message })) o))) unsent never)

    sends : (n to : ℕ) (message : Message)
        → In e (record { number = n; from = a; to = to; message = message } ∷ [])
        → IsSent a (Sends n to message ∷ []) e
    sends n to message (inl same) =
        record {
          from = ap (λ (x : Envelope). x.from) same;
          deed = ap (λ (x : Envelope). Sends x.number x.to x.message ∷ []) (sym same);
        }
    sends n to message (inr never) = absurd never
