-- What an append with fewer calls could leave.
use Rattle.std.proofs.Common.{◌≡◌, ◌⊎◌, inl, inr, ℕ, ◌+◌, ◌<◌, ◌≤◌, List, [], ◌∷◌, ◌++◌, length, refl, ap, arith}
use Rattle.std.proofs.Common.{length-append}
use Rattle.qc_outside.specs.Vocabulary.{IsImage, Stored, settled, wrote}
use Rattle.qc_journal.specs.Vocabulary.{Holds, HoldsWithOrWithout, IsNoJournal, at_once, behind, counted, gate}
use Rattle.qc_journal.proofs.Stages.{length-counted}
use Rattle.qc_journal.proofs.Unique.{one_list, torn_or_not}

-- an open gate with no record behind it
torn : IsNoJournal 0 (1 ∷ 9 ∷ [])
torn = (
  omega arith,
  record {
    bodies = [];
    front = [];
    gate = 1;
    rest = 9 ∷ [];
    records = refl;
    at = refl;
    is_open = omega arith;
    torn = refl;
    none = λ body next more is_body is. omega
        (arith, ap length is, length-append (counted body) (next ∷ more), length-counted body);
  },
)

no_list : HoldsWithOrWithout [] (5 ∷ []) (1 ∷ 9 ∷ []) → ⊥
no_list (inl h) = torn_or_not [] 0 (1 ∷ 9 ∷ []) h torn
no_list (inr h) = torn_or_not ((5 ∷ []) ∷ []) 0 (1 ∷ 9 ∷ []) h torn

open_place : (i : ℕ) → i < 1 → (i < 0) ⊎ (1 ≤ i) → ⊥
open_place i lt (inl a) = omega arith
open_place i lt (inr b) = omega arith

abbrev unsynced : Stored
unsynced = wrote (wrote (settled (0 ∷ [])) (behind 0 (5 ∷ []))) (gate 0)

unsynced_image : IsImage unsynced (1 ∷ 9 ∷ [])
unsynced_image = record {
  no_shorter = omega arith;
  no_longer = omega arith;
  same = λ i lt outside. absurd (open_place i lt outside.0);
}

pub first_sync_is_needed : (c : List ℕ) × IsImage unsynced c × (HoldsWithOrWithout [] (5 ∷ []) c → ⊥)
first_sync_is_needed = (1 ∷ 9 ∷ [], unsynced_image, no_list)

abbrev in_one_piece : Stored
in_one_piece = wrote (settled (0 ∷ [])) (at_once 0 (5 ∷ []))

first_place : (i : ℕ) → i < 1 → (i < 0) ⊎ (0 + length (at_once 0 (5 ∷ [])).bytes ≤ i) → ⊥
first_place i lt (inl a) = omega arith
first_place i lt (inr b) = omega (arith, b, lt)

piece_image : IsImage in_one_piece (1 ∷ 9 ∷ [])
piece_image = record {
  no_shorter = omega arith;
  no_longer = omega arith;
  same = λ i lt outside. absurd (first_place i lt outside.0);
}

pub two_writes_are_needed : (c : List ℕ) × IsImage in_one_piece c × (HoldsWithOrWithout [] (5 ∷ []) c → ⊥)
two_writes_are_needed = (1 ∷ 9 ∷ [], piece_image, no_list)

-- the record behind its closed gate
abbrev shut : List ℕ
shut = 0 ∷ (counted (5 ∷ []) ++ 0 ∷ [])

shut_image : IsImage (wrote (settled shut) (gate 0)) shut
shut_image = record { no_shorter = omega arith; no_longer = omega arith; same = λ i lt outside. refl }

shut_holds : Holds [] shut
shut_holds = inl (record { front = []; rest = counted (5 ∷ []) ++ 0 ∷ []; records = refl; closed = refl })

pub last_sync_is_needed : (c : List ℕ) × IsImage (wrote (settled shut) (gate 0)) c × (Holds ((5 ∷ []) ∷ []) c → ⊥)
last_sync_is_needed = (shut, shut_image, λ h. none_or_one (one_list [] ((5 ∷ []) ∷ []) shut shut_holds h))
  where
    none_or_one : ◌≡◌ {A = List (List ℕ)} [] ((5 ∷ []) ∷ []) → ⊥
    none_or_one e = absurd (cc e)
