-- Which actors are down, by their deeds; and conducts by which such an actor only tells replies.
use Rattle.std.specs.Prelude.{◌≡◌, ℕ, Bool, true, false, List, [], None, fold}
use Rattle.qc_msg.specs.Vocabulary.{Deed, Falls, MayEnd, Rises, Sends, Takes, Tells, Writes}
use Rattle.qc_msg.specs.declared.step.Input.{Input}
use Rattle.qc_msg.specs.declared.step.Input.TheVariants as inputs
use Rattle.qc_msg.specs.declared.turn.Turn.{Turn}
use Rattle.qc_script.specs.Vocabulary.{Inbox}

abbrev pub down_at : Bool → Deed → Bool
down_at down (Takes given) = down
down_at down (Writes written) = down
down_at down (Sends number to message) = down
down_at down (Tells reply) = down
down_at down (Falls cause pending) = true
down_at down (Rises records) = false

-- the actor of these deeds fell, and hasn't risen since
abbrev pub is_down : List Deed → Bool
is_down ds = fold down_at false ds

-- only a record can fail to be written; and an actor that is down writes no record and sends no message
pub record TellsWhereDown (lawful : ℕ → List Deed → Turn → Type 0) : Type 0 where
  pub ends : (a : ℕ) (ds : List Deed) (turn : Turn) → lawful a ds turn → MayEnd turn.write turn.append
  pub writes_none :
      (a : ℕ) (ds : List Deed) (turn : Turn) → lawful a ds turn → is_down ds ≡ true → turn.write ≡ None
  pub sends_none : (a : ℕ) (ds : List Deed) (turn : Turn) → lawful a ds turn → is_down ds ≡ true → turn.sends ≡ []

abbrev pub IsCommand : Input → Type 0
IsCommand (inputs.Called command) = Unit {0}
IsCommand (inputs.Got envelope) = ⊥
IsCommand (inputs.Lost number) = ⊥

-- nothing waits for the actor of an inbox but commands, and late copies that aren't ready
pub record IsEmptied (i : Inbox) : Type 0 where
  pub copies : i.copies ≡ []
  pub unanswered : i.unanswered ≡ []
  pub lost : i.lost ≡ []
