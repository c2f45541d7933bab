-- How many phases a load has, and which stands at each place.
use Rattle.std.proofs.Common.{◌≡◌, ◌+◌, ◌<◌, ℕ, zero, suc, refl, ap, arith, Some, length, slice_get}
use Rattle.qc_gen.specs.Vocabulary.{next_state, phase_of, phases_from, state_after}

pub phases_counted : (count number state : ℕ) → length (phases_from count number state) ≡ count
phases_counted zero number state = refl
phases_counted (suc count) number state = ap suc (phases_counted count (suc number) (next_state state))

-- the phase at a place, by its transaction's number
pub phase_at : (count number state k n : ℕ) → k < count → n ≡ number + k
    → slice_get (phases_from count number state) k ≡ Some (phase_of n (state_after (suc k) state))
phase_at zero number state k n below is = absurd (omega arith)
phase_at (suc count) number state zero n below is =
    let same : number ≡ n = omega arith in ap (λ m. Some (phase_of m (next_state state))) same
phase_at (suc count) number state (suc k) n below is =
    phase_at count (suc number) (next_state state) k n (omega arith) (omega arith)
