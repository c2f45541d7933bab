-- A journal at rest lasts, with its closed gate.
use Rattle.std.proofs.Common.{inl, ℕ, List, ◌∷◌, ◌++◌, subst, arith, length-append}
use Rattle.qc_outside.specs.Vocabulary.{IsImage, Leaves, Stored, Told, settled}
use Rattle.qc_journal.specs.Vocabulary.{Holds, IsAtRest, IsJournal}
use Rattle.qc_journal.proofs.Lists.{same_front}

pub rest_is_journal : (end : ℕ) (bodies : List (List ℕ)) (t : Told) → IsAtRest end bodies t
    → Leaves (IsJournal bodies) t.now
rest_is_journal end bodies t rest image is =
    let is_image : IsImage (settled (rest.front ++ 0 ∷ rest.rest)) image =
    subst (λ (s : Stored). IsImage s image) rest.lasting is in
    let found = same_front rest.front 0 rest.rest image
    (omega (arith, is_image.no_shorter, length-append rest.front (0 ∷ rest.rest)))
    (λ i le. is_image.same i (omega (arith, le, length-append rest.front (0 ∷ rest.rest))) tt) in
    record { front = rest.front; rest = found.0; records = rest.records; closed = found.1 }

pub records_last : (end : ℕ) (bodies : List (List ℕ)) (t : Told) → IsAtRest end bodies t → Leaves (Holds bodies) t.now
records_last end bodies t rest image is = inl (rest_is_journal end bodies t rest image is)
