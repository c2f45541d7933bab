-- What one actor does in a run: it takes an input, then it posts the turn that this calls for, and so on.
use Rattle.std.specs.Prelude.{◌≡◌, ◌≤◌, ℕ, ◌+◌, Bool, true, false, List, [], ◌∷◌, ◌++◌, fold, length}
use Rattle.qc_decl.specs.declared.declaration.Declaration.{Declaration}
use Rattle.qc_msg.specs.declared.step.Input.{Input}
use Rattle.qc_msg.specs.declared.step.Input.TheVariants as inputs
use Rattle.qc_msg.specs.declared.turn.Turn.{Turn}
use Rattle.qc_msg.specs.Vocabulary.{Deed, Falls, Rises, Sends, Takes, Tells, Writes, turn_deeds}
use Rattle.qc_core.specs.Conduct.{IsLawful}

-- whether a command runs: one was called, and its reply isn't told yet

abbrev pub runs_given : Bool → Input → Bool
runs_given running (inputs.Called command) = true
runs_given running (inputs.Got envelope) = running
runs_given running (inputs.Lost number) = running

abbrev pub runs_at : Bool → Deed → Bool
runs_at running (Takes given) = runs_given running given
runs_at running (Writes written) = running
runs_at running (Sends number to message) = running
runs_at running (Tells reply) = false
runs_at running (Falls cause pending) = false
runs_at running (Rises records) = false

abbrev pub is_running : List Deed → Bool
is_running ds = fold runs_at false ds

-- a command comes only where none runs
abbrev pub MayTake : List Deed → Input → Type 0
MayTake ds (inputs.Called command) = is_running ds ≡ false
MayTake ds (inputs.Got envelope) = Unit {0}
MayTake ds (inputs.Lost number) = Unit {0}

-- the deeds of an actor, whether it has an open input, and a number above those of its messages
pub data Acts (decl : Declaration) (a : ℕ) : List Deed → Bool → ℕ → Type 0 where
  starts : Acts decl a [] false 0
  takes : (ds : List Deed) (given : Input) (n : ℕ)
      → Acts decl a ds false n
      → MayTake ds given
      → Acts decl a (ds ++ Takes given ∷ []) true n
  posts : (ds : List Deed) (turn : Turn) (n first : ℕ)
      → Acts decl a ds true n
      → n ≤ first
      → IsLawful decl a ds turn
      → Acts decl a (ds ++ turn_deeds first turn) false (first + length turn.sends)
