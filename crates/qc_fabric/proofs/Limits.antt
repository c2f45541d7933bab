-- What is told of limits: all quantities are below theirs, or the first that isn't, with its number.
use Rattle.std.proofs.Common.{◌≡◌, ℕ, ◌<◌, ◌^◌, ◌-◌, Bool, true, false, List, length, Option, Some, None, refl, subst}
use Rattle.std.proofs.Common.{arith}
use Rattle.std.specs.Prelude.{nat_le, if◌then◌else◌}
use Rattle.std.proofs.lemmas.Bool.{leb-false, leb-true}
use Rattle.qc_decl.specs.Vocabulary.{most_carried_lines, most_committed_operations, most_steps}
use Rattle.qc_msg.specs.Vocabulary.{Entry, carried_of, operations_of}
use Rattle.qc_msg.specs.declared.step.Quantity.TheVariants.{Steps, Operations, Carried}
use Rattle.qc_fabric.specs.Vocabulary.{HasReached, IsBelow, counted, full_of}
use Rattle.qc_fabric.specs.declared.full.Full.{Full}

below_counted : (n limit : ℕ) → limit < 2 ^ 32 - 1 → counted n < limit → n < limit
below_counted n limit few low = omega arith

module _ (h : List Entry) where
  abbrev told : Bool → Bool → Bool → Option Full
  told a b c =
      if a then Some (record { what = Steps; number = length h })
      else (if b then Some (record { what = Operations; number = counted (operations_of h) })
      else (if c then Some (record { what = Carried; number = counted (carried_of h) }) else None))

  pub none_reached : full_of h ≡ None → IsBelow h
  none_reached = by (nat_le most_steps (length h)) (nat_le most_committed_operations (counted (operations_of h)))
      (nat_le most_carried_lines (counted (carried_of h))) refl refl refl
    where
      by : (a b c : Bool) → nat_le most_steps (length h) ≡ a
          → nat_le most_committed_operations (counted (operations_of h)) ≡ b
          → nat_le most_carried_lines (counted (carried_of h)) ≡ c → told a b c ≡ None → IsBelow h
      by true b c x y z is = absurd (let no : ⊥ = cc in no)
      by false true c x y z is = absurd (let no : ⊥ = cc in no)
      by false false true x y z is = absurd (let no : ⊥ = cc in no)
      by false false false x y z is = record {
        steps = leb-false most_steps (length h) x;
        operations = below_counted (operations_of h) most_committed_operations (omega arith)
            (leb-false most_committed_operations (counted (operations_of h)) y);
        carried = below_counted (carried_of h) most_carried_lines (omega arith)
            (leb-false most_carried_lines (counted (carried_of h)) z);
      }

  pub first_reached : (full : Full) → full_of h ≡ Some full → HasReached full.what full.number h
  first_reached full = by (nat_le most_steps (length h)) (nat_le most_committed_operations (counted (operations_of h)))
      (nat_le most_carried_lines (counted (carried_of h))) refl refl refl
    where
      along : (f : Full) → (let o : Option Full = Some f in o) ≡ Some full → HasReached f.what f.number h
          → HasReached full.what full.number h
      along f is here = let same : f ≡ full = cc in subst (λ (x : Full). HasReached x.what x.number h) same here

      by : (a b c : Bool) → nat_le most_steps (length h) ≡ a
          → nat_le most_committed_operations (counted (operations_of h)) ≡ b
          → nat_le most_carried_lines (counted (carried_of h)) ≡ c → told a b c ≡ Some full
          → HasReached full.what full.number h
      by true b c x y z is = along (record { what = Steps; number = length h }) is
          (record { limit = leb-true most_steps (length h) x; number_is = refl; first = tt })
      by false true c x y z is = along (record { what = Operations; number = counted (operations_of h) }) is
          (record {
            limit = leb-true most_committed_operations (counted (operations_of h)) y;
            number_is = refl;
            first = leb-false most_steps (length h) x;
          })
      by false false true x y z is = along (record { what = Carried; number = counted (carried_of h) }) is
          (record {
            limit = leb-true most_carried_lines (counted (carried_of h)) z;
            number_is = refl;
            first = (
              leb-false most_steps (length h) x,
              below_counted (operations_of h) most_committed_operations (omega arith)
                  (leb-false most_committed_operations (counted (operations_of h)) y),
            );
          })
      by false false false x y z is = absurd (let no : ⊥ = cc in no)
