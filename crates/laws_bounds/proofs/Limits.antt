-- What begins something stands behind no more steps than stand before the last that does.
use Rattle.std.proofs.Common.{◌≡◌, ℕ, ◌<◌, ◌≤◌, Bool, true, false, List, [], ◌∷◌, ◌++◌, length, refl, ap, ◌∙◌, arith}
use Rattle.std.specs.List.{list_any}
use Rattle.qc_msg.specs.Vocabulary.{Entry}
use Rattle.qc_msg.specs.declared.step.Step.{Step}
use Rattle.qc_msg.specs.declared.step.Step.TheVariants.{Damaged}
use Rattle.laws_bounds.specs.Vocabulary.{IsDamagedWithin, before_last}

module _ (begins : Step → Bool) where
  abbrev is_one : Entry → Bool
  is_one e = begins e.step

  some_begins : (before later : List Entry) (e : Entry) → begins e.step ≡ true
      → list_any is_one (before ++ e ∷ later) ≡ true
  some_begins [] later e begun = rw begun refl
  some_begins (b ∷ before) later e begun = by (some_begins before later e begun) (begins b.step) refl
    where
      by : list_any is_one (before ++ e ∷ later) ≡ true → (t : Bool) → begins b.step ≡ t
          → list_any is_one ((b ∷ before) ++ e ∷ later) ≡ true
      by rest true is = rw is refl
      by rest false is = rw is rest

  as_far : (before later : List Entry) (e : Entry) → begins e.step ≡ true
      → length before ≤ length (before_last begins (before ++ e ∷ later))
  as_far [] later e begun = omega arith
  as_far (b ∷ before) later e begun =
      rw (some_begins before later e begun) (omega (arith, as_far before later e begun))

pub damage_is_found_within_the_limit : (begins : Step → Bool) (most : ℕ) (h : List Entry)
    → ((offset : ℕ) → begins (Damaged offset) ≡ true)
    → length (before_last begins h) < most → IsDamagedWithin most h
damage_is_found_within_the_limit begins most h damage few before later e offset is found =
    let far : length before ≤ length (before_last begins (before ++ e ∷ later)) =
    as_far begins before later e (ap begins found ∙ damage offset) in
    let same : length (before_last begins (before ++ e ∷ later)) ≡ length (before_last begins h) =
    ap (λ (l : List Entry). length (before_last begins l)) is in
    omega (arith, far, same, few)
