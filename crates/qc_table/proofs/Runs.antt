-- Laws of runs.
use Rattle.std.proofs.Common.{◌≡◌, ℕ, List, [], ◌∷◌, ◌++◌, Option, None, refl}
use Rattle.qc_table.specs.Vocabulary.{next_state, reached}

-- no state stays no state
pub reached_none : (step : ℕ → ℕ → Option ℕ) (numbers : List ℕ) → reached step None numbers ≡ None
reached_none step [] = refl
reached_none step (number ∷ numbers) = reached_none step numbers

-- a run over two lists, one behind the other
pub runs_join : (step : ℕ → ℕ → Option ℕ) (state : Option ℕ) (front back : List ℕ)
    → reached step state (front ++ back) ≡ reached step (reached step state front) back
runs_join step state [] back = refl
runs_join step state (number ∷ front) back = runs_join step (next_state step state number) front back
