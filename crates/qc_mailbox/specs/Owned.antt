-- Requests that an actor sent itself.
use Rattle.std.specs.Prelude.{◌≡◌, ℕ, true, List}
use Rattle.qc_list.specs.Vocabulary.{In}
use Rattle.qc_msg.specs.declared.message.Envelope.{Envelope}
use Rattle.qc_script.specs.Vocabulary.{is_request}

-- among these messages stands a request of this number that the actor sent
pub record IsOwnRequest (ms : List Envelope) (a n : ℕ) : Type 0 where
  pub envelope : Envelope
  pub member : In envelope ms
  pub number_is : envelope.number ≡ n
  pub from_is : envelope.from ≡ a
  pub asks : is_request envelope.message ≡ true
