-- Up to 500 transactions of a load have room.
use Rattle.std.proofs.Common.{◌≡◌, ℕ, zero, suc, ◌+◌, ◌*◌, ◌≤◌, [], length, sum_by, refl, arith}
use Rattle.std.specs.List.{AllByRecursion as Every}
use Rattle.std.proofs.Math.Nat.{mul-le-mul_left}
use Rattle.std.proofs.lemmas.List.Sums.{sum_by-cons}
use Rattle.qc_decl.specs.Vocabulary.{three}
use Rattle.qc_gen.specs.Vocabulary.{load_of, next_state, phase_of, phases_from}
use Rattle.qc_script.specs.declared.script.PhaseLines.{PhaseLines}
use Rattle.laws_room.specs.Vocabulary.{HasRoom, MovesNone, commands_of, dos_in, dos_of}
use Rattle.std.proofs.Common.{ap}

pub phases_counted : (count number state : ℕ) → length (phases_from count number state) ≡ count
phases_counted zero number state = refl
phases_counted (suc count) number state = ap suc (phases_counted count (suc number) (next_state state))

-- four commands a phase, of which two are a `do`, and no control line

four : (count number state : ℕ)
    → sum_by (λ (p : PhaseLines). length p.commands) (phases_from count number state) ≡ 4 * count
four zero number state = refl
four (suc count) number state =
    let rest : sum_by (λ (p : PhaseLines). length p.commands) (phases_from count (suc number) (next_state state))
    ≡ 4 * count = four count (suc number) (next_state state) in
    let both : sum_by (λ (p : PhaseLines). length p.commands) (phases_from (suc count) number state)
    ≡ 4 + sum_by (λ (p : PhaseLines). length p.commands) (phases_from count (suc number) (next_state state)) =
    sum_by-cons (λ (p : PhaseLines). length p.commands) (phase_of number (next_state state))
    (phases_from count (suc number) (next_state state)) in
    omega arith

two : (count number state : ℕ) → sum_by dos_in (phases_from count number state) ≡ 2 * count
two zero number state = refl
two (suc count) number state =
    let rest : sum_by dos_in (phases_from count (suc number) (next_state state)) ≡ 2 * count =
    two count (suc number) (next_state state) in
    let both : sum_by dos_in (phases_from (suc count) number state)
    ≡ 2 + sum_by dos_in (phases_from count (suc number) (next_state state)) =
    sum_by-cons dos_in (phase_of number (next_state state)) (phases_from count (suc number) (next_state state)) in
    omega arith

no_controls : (count number state : ℕ)
    → Every (λ (p : PhaseLines). p.controls ≡ []) (phases_from count number state)
no_controls zero number state = tt
no_controls (suc count) number state = (refl, no_controls count (suc number) (next_state state))

no_epochs : (count number state : ℕ) → Every MovesNone (phases_from count number state)
no_epochs zero number state = tt
no_epochs (suc count) number state =
    ((refl, (refl, (refl, (refl, tt)))), no_epochs count (suc number) (next_state state))

module _ (count seed : ℕ) (few : count ≤ 500) where
  commands : commands_of (load_of count seed) ≡ 4 * count
  commands = four count 0 seed

  dos : dos_of (load_of count seed) ≡ 2 * count
  dos = two count 0 seed

  phases : length (load_of count seed).phases ≡ count
  phases = phases_counted count 0 seed

  low : 6 * dos_of (load_of count seed) * dos_of (load_of count seed) ≤ 6 * dos_of (load_of count seed) * 1000
  low = mul-le-mul_left (6 * dos_of (load_of count seed)) (omega (arith, dos, few))

  pub loads_have_room : HasRoom three (load_of count seed)
  loads_have_room = record {
    plain = record {
      lossless = record { links = refl; controls = no_controls count 0 seed };
      epochs = no_epochs count 0 seed;
    };
    steps = omega (arith, commands, phases, few);
    operations = omega (arith, dos, few);
    lines = omega (arith, low, dos, few);
  }
