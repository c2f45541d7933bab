-- Lines that a list has, and those that it lacks.
use Rattle.std.proofs.Common.{◌≡◌, ◌⊎◌, inl, inr, List, ◌++◌, ap}
use Rattle.qc_entry.specs.declared.line.Line.{Line}
use Rattle.qc_entry.specs.Vocabulary.{IsAscending, line_cmp, without}
use Rattle.qc_entry.proofs.Members.{ascending-same}
use Rattle.qc_entry.proofs.Without.{in_without, lacked}
use Rattle.qc_list.specs.Vocabulary.{In}
use Rattle.qc_list.proofs.Members.{In-unfiltered}
use Rattle.qc_list.proofs.Order.{ascends-filter}
use Rattle.theory_marks.specs.Marks.{with_arrivals}

-- Fewer lines, of those that the list has already, join to the same.
pub fewer_join_alike : (arrived fewer all : List Line) → IsAscending fewer → IsAscending all
    → ((l : Line) → In l fewer → In l all) → ((l : Line) → In l all → In l fewer ⊎ In l arrived)
    → with_arrivals arrived fewer ≡ with_arrivals arrived all
fewer_join_alike arrived fewer all up above less whole =
    ap (λ (xs : List Line). arrived ++ xs)
    (ascending-same (without fewer arrived) (without all arrived) (ascends-filter line_cmp _ fewer up)
    (ascends-filter line_cmp _ all above)
    (λ l h. into l (in_without all arrived l (less l (In-unfiltered _ l fewer h))) h)
    (λ l h. back l (whole l (In-unfiltered _ l all h)) h))
  where
    into : (l : Line) → In l (without all arrived) ⊎ In l arrived → In l (without fewer arrived)
        → In l (without all arrived)
    into l (inl x) h = x
    into l (inr x) h = absurd (lacked fewer arrived l h x)

    back : (l : Line) → In l fewer ⊎ In l arrived → In l (without all arrived) → In l (without fewer arrived)
    back l (inr x) h = absurd (lacked all arrived l h x)
    back l (inl x) h = elim (in_without fewer arrived l x) [ inl y ↦ y | inr y ↦ absurd (lacked all arrived l h y) ]
