-- What is read after a fall.
use Rattle.std.proofs.Common.{◌≡◌, ◌⊎◌, inl, inr, ℕ, List, [], ◌∷◌, ◌++◌, Option, Some, None}
use Rattle.qc_outside.specs.Vocabulary.{IsImage, Since, Tells, Told, as_read}
use Rattle.qc_outside.proofs.Kept.{read_is_image}
use Rattle.qc_journal.specs.Vocabulary.{Holds, HoldsWithOrWithout, IsAtRest, IsNoJournal}
use Rattle.qc_journal.proofs.Unique.{one_list, torn_or_not}

tells_then : (P Q R : Told → Told → Type 0) (a b c : Option Told) → ((o m n : Told) → P o m → Q m n → R o n)
    → Tells a b P → Tells b c Q → Tells a c R
tells_then P Q R (Some o) (Some m) (Some n) f p q = f o m n p q
tells_then P Q R None None None f p q = tt
tells_then P Q R (Some o) None c f p q = absurd p
tells_then P Q R None (Some m) c f p q = absurd p
tells_then P Q R (Some o) (Some m) None f p q = absurd q
tells_then P Q R None None (Some n) f p q = absurd q

module _ (bodies : List (List ℕ)) (body : List ℕ) where
  abbrev Left : Told → Told → Type 0
  Left old new = HoldsWithOrWithout bodies body (as_read new.now)

  -- after the fall
  left : (a b c : Option Told) → Tells a b (λ old new. Since (HoldsWithOrWithout bodies body) old new)
      → Tells b c (λ old new. Since (IsImage old.now) old new) → Tells a c Left
  left a b c = tells_then (λ old new. Since (HoldsWithOrWithout bodies body) old new)
      (λ old new. Since (IsImage old.now) old new) Left a b c
      (λ o m n first second. first.now (as_read n.now) (second.now (as_read n.now) (read_is_image n.now)))

  which : (found : List (List ℕ)) (bytes : List ℕ) → HoldsWithOrWithout bodies body bytes → Holds found bytes
      → (found ≡ bodies) ⊎ (found ≡ bodies ++ body ∷ [])
  which found bytes (inl before) holds = inl (one_list found bodies bytes holds before)
  which found bytes (inr after) holds = inr (one_list found (bodies ++ body ∷ []) bytes holds after)

  never : (offset : ℕ) (bytes : List ℕ) → HoldsWithOrWithout bodies body bytes → IsNoJournal offset bytes → ⊥
  never offset bytes (inl before) torn = torn_or_not bodies offset bytes before torn
  never offset bytes (inr after) torn = torn_or_not (bodies ++ body ∷ []) offset bytes after torn

  pub read_again : (found : List (List ℕ)) (end : ℕ) (a b c d : Option Told)
      → Tells a b (λ old new. Since (HoldsWithOrWithout bodies body) old new)
      → Tells b c (λ old new. Since (IsImage old.now) old new)
      → Tells c d (λ old new. Holds found (as_read old.now) × IsAtRest end found new)
      → Tells a d (λ _ _. (found ≡ bodies) ⊎ (found ≡ bodies ++ body ∷ []))
  read_again found end a b c d added fell opened =
      tells_then Left (λ old new. Holds found (as_read old.now) × IsAtRest end found new)
      (λ _ _. (found ≡ bodies) ⊎ (found ≡ bodies ++ body ∷ [])) a c d
      (λ o m n was holds. which found (as_read m.now) was holds.0) (left a b c added fell) opened

  pub never_torn : (offset : ℕ) (a b c d : Option Told)
      → Tells a b (λ old new. Since (HoldsWithOrWithout bodies body) old new)
      → Tells b c (λ old new. Since (IsImage old.now) old new)
      → Tells c d (λ old new. IsNoJournal offset (as_read old.now)) → Tells a d (λ _ _. ⊥)
  never_torn offset a b c d added fell torn =
      tells_then Left (λ old new. IsNoJournal offset (as_read old.now)) (λ _ _. ⊥) a c d
      (λ o m n was bad. never offset (as_read m.now) was bad) (left a b c added fell) torn
