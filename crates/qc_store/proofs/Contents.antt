-- What a disk that fell holds.
use Rattle.std.proofs.Common.{◌≡◌, inl, inr, ℕ, ◌≤◌, List, [], ◌∷◌, ◌++◌, Option, Some, None, length, refl}
use Rattle.qc_outside.specs.Vocabulary.{IsImage, Since, Tells, Told, as_read}
use Rattle.qc_outside.proofs.Kept.{read_is_image}
use Rattle.qc_journal.specs.Vocabulary.{Holds, HoldsWithOrWithout, IsAtRest, IsLeftAtOpen, IsNoJournal, Rests}
use Rattle.qc_journal.proofs.Lasting.{rest_is_journal, records_last}
use Rattle.qc_journal.proofs.Unique.{length_journal, one_list, torn_or_not}
use Rattle.qc_store.specs.Vocabulary.{AreGiven, DiskHasJournal, DiskHolds, HoldsBodies, IsSettled, StillTells}

-- a fall leaves what was there
pub fall_holds : (a b : Option Told) (bodies : List (List ℕ)) (pending : Option (List ℕ))
    → Tells a b (λ old new. Since (IsImage old.now) old new) → DiskHolds a bodies pending → DiskHolds b bodies pending
fall_holds None None bodies pending fell is = tt
fall_holds (Some o) None bodies pending fell is = absurd fell
fall_holds None (Some n) bodies pending fell is = absurd fell
fall_holds (Some o) (Some n) bodies pending fell is = λ image left. is image (fell.now image left)

-- a journal at rest that falls
pub rested : (a b : Option Told) (end : ℕ) (bodies : List (List ℕ))
    → Tells a b (λ old new. Since (IsImage old.now) old new) → Rests a end bodies → DiskHolds b bodies None
rested None None end bodies fell is = tt
rested (Some o) None end bodies fell is = absurd fell
rested None (Some n) end bodies fell is = absurd fell
rested (Some o) (Some n) end bodies fell is = λ image left. records_last end bodies o is image (fell.now image left)

pub rested_begun : (a b : Option Told) (end : ℕ) (bodies : List (List ℕ))
    → Tells a b (λ old new. Since (IsImage old.now) old new) → Rests a end bodies → DiskHasJournal b bodies
rested_begun None None end bodies fell is = tt
rested_begun (Some o) None end bodies fell is = absurd fell
rested_begun None (Some n) end bodies fell is = absurd fell
rested_begun (Some o) (Some n) end bodies fell is =
    λ image left. rest_is_journal end bodies o is image (fell.now image left)

-- a record was being written, and then the disk fell
pub broken_off : (a b c : Option Told) (bodies : List (List ℕ)) (body : List ℕ)
    → Tells a b (λ old new. Since (HoldsWithOrWithout bodies body) old new)
    → Tells b c (λ old new. Since (IsImage old.now) old new) → DiskHolds c bodies (Some body)
broken_off None None None bodies body wrote fell = tt
broken_off None None (Some n) bodies body wrote fell = absurd fell
broken_off None (Some m) c bodies body wrote fell = absurd wrote
broken_off (Some o) None c bodies body wrote fell = absurd wrote
broken_off (Some o) (Some m) None bodies body wrote fell = absurd fell
broken_off (Some o) (Some m) (Some n) bodies body wrote fell = λ image left. wrote.now image (fell.now image left)

-- a short disk holds nothing

short_holds : (bodies : List (List ℕ)) (bytes : List ℕ) → length bytes ≤ 1 → Holds bodies bytes → bodies ≡ []
short_holds bodies bytes short (inl holds) = length_journal bodies bytes holds short
short_holds bodies bytes short (inr none) = none.1

shorts : (bodies : List (List ℕ)) (bytes image : List ℕ) → length bytes ≤ 1 → length image ≤ 1 → Holds bodies bytes
    → Holds bodies image
shorts bodies bytes image short few holds = inr (few, short_holds bodies bytes short holds)

short_disk_holds : (bodies : List (List ℕ)) (pending : Option (List ℕ)) (bytes image : List ℕ) → length bytes ≤ 1
    → length image ≤ 1 → HoldsBodies bodies pending bytes → HoldsBodies bodies pending image
short_disk_holds bodies None bytes image short few holds = shorts bodies bytes image short few holds
short_disk_holds bodies (Some body) bytes image short few (inl holds) = inl (shorts bodies bytes image short few holds)
short_disk_holds bodies (Some body) bytes image short few (inr holds) =
    inr (shorts (bodies ++ body ∷ []) bytes image short few holds)

-- an opening that was refused leaves what was there
pub refusal_holds : (a b : Option Told) (bodies : List (List ℕ)) (pending : Option (List ℕ))
    → Tells a b (λ old new. Since (IsLeftAtOpen old.now) old new) → DiskHolds a bodies pending
    → DiskHolds b bodies pending
refusal_holds None None bodies pending opened is = tt
refusal_holds (Some o) None bodies pending opened is = absurd opened
refusal_holds None (Some n) bodies pending opened is = absurd opened
refusal_holds (Some o) (Some n) bodies pending opened is = λ image left. by image (opened.now image left)
  where
    by : (image : List ℕ) → IsLeftAtOpen o.now image → HoldsBodies bodies pending image
    by image (inl same) = is image same
    by image (inr short) =
        short_disk_holds bodies pending (as_read o.now) image short.0 short.1 (is (as_read o.now) (read_is_image o.now))

-- what an opening gives
gives : (bodies found : List (List ℕ)) (pending : Option (List ℕ)) (bytes : List ℕ) → HoldsBodies bodies pending bytes
    → Holds found bytes → AreGiven bodies pending found
gives bodies found None bytes was is = one_list found bodies bytes is was
gives bodies found (Some body) bytes (inl was) is = inl (one_list found bodies bytes is was)
gives bodies found (Some body) bytes (inr was) is = inr (one_list found (bodies ++ body ∷ []) bytes is was)

pub opening_gives : (a b : Option Told) (bodies found : List (List ℕ)) (pending : Option (List ℕ)) (end : ℕ) (t : Told)
    → a ≡ Some t → Tells a b (λ old new. Holds found (as_read old.now) × IsAtRest end found new)
    → DiskHolds a bodies pending → AreGiven bodies pending found
opening_gives None b bodies found pending end t tells opened is = absurd (cc tells)
opening_gives (Some o) None bodies found pending end t tells opened is = absurd opened
opening_gives (Some o) (Some n) bodies found pending end t tells opened is =
    gives bodies found pending (as_read o.now) (is (as_read o.now) (read_is_image o.now)) opened.0

never : (bodies : List (List ℕ)) (pending : Option (List ℕ)) (offset : ℕ) (bytes : List ℕ)
    → HoldsBodies bodies pending bytes → IsNoJournal offset bytes → ⊥
never bodies None offset bytes was torn = torn_or_not bodies offset bytes was torn
never bodies (Some body) offset bytes (inl was) torn = torn_or_not bodies offset bytes was torn
never bodies (Some body) offset bytes (inr was) torn = torn_or_not (bodies ++ body ∷ []) offset bytes was torn

pub never_torn : (a b : Option Told) (bodies : List (List ℕ)) (pending : Option (List ℕ)) (offset : ℕ) (t : Told)
    → a ≡ Some t → Tells a b (λ old new. IsNoJournal offset (as_read old.now)) → DiskHolds a bodies pending → ⊥
never_torn None b bodies pending offset t tells torn is = absurd (cc tells)
never_torn (Some o) None bodies pending offset t tells torn is = absurd torn
never_torn (Some o) (Some n) bodies pending offset t tells torn is =
    never bodies pending offset (as_read o.now) (is (as_read o.now) (read_is_image o.now)) torn

-- what is told from one call to the next says that it still tells
pub still : (P : Told → Told → Type 0) (a b : Option Told) → Tells a b P → StillTells a b
still P None b tells some = absurd (cc some)
still P (Some o) None tells some = absurd tells
still P (Some o) (Some n) tells some = refl

pub still_then : (a b c : Option Told) → StillTells a b → StillTells b c → StillTells a c
still_then a b c first second some = second (first some)

-- a fall leaves nothing pending
pub settled_by_fall : (a b : Option Told) → Tells a b (λ old new. new.now.writes ≡ []) → IsSettled b
settled_by_fall None None fell = tt
settled_by_fall (Some o) None fell = absurd fell
settled_by_fall None (Some n) fell = absurd fell
settled_by_fall (Some o) (Some n) fell = fell
