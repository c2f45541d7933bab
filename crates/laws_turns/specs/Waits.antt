-- Where an unanswered request is.
use Rattle.std.specs.Prelude.{◌≡◌, ℕ, ◌⊎◌, Bool, true, List, [], ◌∷◌, ◌++◌, Some, slice_get}
use Rattle.qc_list.specs.Vocabulary.{In}
use Rattle.qc_msg.specs.declared.message.Envelope.{Envelope}
use Rattle.qc_msg.specs.declared.step.Input.TheVariants as inputs
use Rattle.qc_msg.specs.Vocabulary.{Deed, Entry, Takes, deeds, mail}
use Rattle.qc_script.specs.Vocabulary.{inbox, is_request}
use Rattle.qc_script.specs.declared.script.Script.{Script}

-- the message is the open input of its receiver
pub record IsTaken (h : List Entry) (open_inputs : List Bool) (e : Envelope) : Type 0 where
  pub is_open : slice_get open_inputs e.to ≡ Some true
  pub before : List Deed
  pub last : deeds e.to [] h ≡ before ++ Takes (inputs.Got e) ∷ []

-- the request of this number that the actor sent is ready at its receiver, or is the receiver's open input
pub record IsAtReceiver (script : Script) (h : List Entry) (open_inputs : List Bool) (a n : ℕ) : Type 0 where
  pub envelope : Envelope
  pub number : envelope.number ≡ n
  pub from : envelope.from ≡ a
  pub request : is_request envelope.message ≡ true
  pub sent : In envelope (mail h)
  pub place : In envelope (inbox script envelope.to h).copies ⊎ IsTaken h open_inputs envelope
