-- A history event by event, as every run is: an actor takes what was sent to it, an actor posts the turn that its last
-- input calls for, or the controller acts.
use Rattle.std.specs.Prelude.{◌≡◌, ℕ, List, [], ◌∷◌, ◌++◌, None, length}
use Rattle.qc_core.specs.Vocabulary.{IsLawful}
use Rattle.qc_decl.specs.declared.declaration.Declaration.{Declaration}
use Rattle.qc_msg.specs.Vocabulary.{Entry, WasSentTo, by, deed_at, deeds, envelope_at, mail, marked, posted, step_of}
use Rattle.qc_msg.specs.declared.message.Envelope.{Envelope}
use Rattle.qc_msg.specs.declared.step.Input.{Input}
use Rattle.qc_msg.specs.declared.step.Step.{Step}
use Rattle.qc_msg.specs.declared.turn.Turn.{Turn}

-- a step that is no deed, and sends nothing
pub record IsControl (a : ℕ) (step : Step) : Type 0 where
  pub undone : (ms : List Envelope) → deed_at ms step ≡ []
  pub unsent : envelope_at a step ≡ None

pub data Events (decl : Declaration) : List Entry → Type 0 where
  begins : Events decl []
  takes : (a : ℕ) (given : Input) (h : List Entry) → Events decl h → WasSentTo a (mail h) given
      → Events decl (h ++ marked a (step_of given) ∷ [])
  posts : (a : ℕ) (turn : Turn) (h : List Entry) → Events decl h → IsLawful decl a (deeds a [] h) turn
      → Events decl (h ++ by a (posted (length (mail h)) turn))
  controls : (a : ℕ) (step : Step) (h : List Entry) → Events decl h → IsControl a step
      → Events decl (h ++ marked a step ∷ [])
