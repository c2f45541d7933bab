-- A history made by a schedule: whoever is named takes its input, or posts the turn of its conduct.
use Rattle.std.specs.Prelude.{ℕ, List, [], ◌∷◌, ◌++◌, length, Option, Some, option_map, option_and_then}
use Rattle.qc_core.specs.Vocabulary.{turn_after}
use Rattle.qc_decl.specs.declared.declaration.Declaration.{Declaration}
use Rattle.qc_decl.specs.Vocabulary.{controller}
use Rattle.qc_msg.specs.declared.step.Step.{Step}
use Rattle.qc_msg.specs.declared.turn.Turn.{Turn}
use Rattle.qc_msg.specs.Vocabulary.{Entry, by, deeds, mail, marked, posted}

-- the controller acts; an actor takes its input; an actor posts its turn
pub data Move : Type 0 where
  Acts : (step : Step) → Move
  Takes : (actor : ℕ) (step : Step) → Move
  Posts : (actor : ℕ) → Move

-- the entries of a turn, the messages numbered on from those so far
abbrev pub entries_of : ℕ → List Entry → Turn → List Entry
entries_of a h turn = by a (posted (length (mail h)) turn)

-- the entries that a move adds; none where it is no turn
abbrev pub added : Declaration → List Entry → Move → Option (List Entry)
added decl h (Acts step) = Some (marked (controller decl) step ∷ [])
added decl h (Takes a step) = Some (marked a step ∷ [])
added decl h (Posts a) = option_map (entries_of a h) (turn_after decl a (deeds a [] h))

-- the history that the moves make of another one
abbrev pub performed_from : Declaration → List Entry → List Move → Option (List Entry)
performed_from decl h [] = Some h
performed_from decl h (move ∷ moves) =
    option_and_then (λ (entries : List Entry). performed_from decl (h ++ entries) moves) (added decl h move)

-- the history that the moves make of nothing
abbrev pub performed : Declaration → List Move → Option (List Entry)
performed decl moves = performed_from decl [] moves
