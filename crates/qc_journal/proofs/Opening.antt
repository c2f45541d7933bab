-- What opening tells.
use Rattle.std.proofs.Common.{◌≡◌, inl, inr, ℕ, ◌≤◌, List, [], ◌∷◌, ◌++◌, length, Option, Some, None, refl, sym, ◌∙◌}
use Rattle.std.proofs.Common.{ap, subst, arith}
use Rattle.qc_outside.specs.Vocabulary.{IsImage, Since, Stored, Tells, Told, as_read, overwritten, settled, wrote}
use Rattle.qc_outside.proofs.Images.{since_weaker}
use Rattle.qc_journal.specs.Vocabulary.{Holds, IsAtRest, IsLeftAtOpen, IsNoJournal, IsTorn, Stands}
use Rattle.qc_journal.proofs.Append.{Writes, Syncs, Synced, Lasts}

-- what was known before a sync is known after it
pub known_after : (Q : List ℕ → Type 0) (a b : Option Told) → Synced a b → ((t : Told) → a ≡ Some t → Q (as_read t.now))
    → (t : Told) → b ≡ Some t → Q (as_read t.now)
known_after Q (Some o) (Some n) synced was t is =
    let same : n ≡ t = cc in
    subst (λ (u : Told). Q (as_read u.now)) same (subst (λ (s : Stored). Q (as_read s)) (sym synced) (was o refl))
known_after Q None None synced was t is = cc
known_after Q (Some o) None synced was t is = absurd synced
known_after Q None (Some n) synced was t is = absurd synced

pub long_opened : (end : ℕ) (bodies : List (List ℕ)) (a b : Option Told) → Synced a b
    → ((t : Told) → b ≡ Some t → Stands end bodies (as_read t.now))
    → Tells a b (λ old new. Holds bodies (as_read old.now) × IsAtRest end bodies new)
long_opened end bodies (Some o) (Some n) synced stands =
    let s = stands n refl in
    let bytes : as_read o.now ≡ s.front ++ 0 ∷ s.rest = ap as_read (sym synced) ∙ s.closed in (
      inl (record { front = s.front; rest = s.rest; records = s.records; closed = bytes }),
      record {
        front = s.front;
        rest = s.rest;
        records = s.records;
        end_is = s.place;
        lasting = synced
            ∙ ap settled bytes;
      },
    )
long_opened end bodies None None synced stands = tt
long_opened end bodies (Some o) None synced stands = absurd synced
long_opened end bodies None (Some n) synced stands = absurd synced

pub long_torn : (offset len : ℕ) (a b : Option Told) → 2 ≤ len
    → ((t : Told) → a ≡ Some t → len ≡ length (as_read t.now)) → Synced a b
    → ((t : Told) → b ≡ Some t → IsTorn offset (as_read t.now))
    → Tells a b (λ old new. IsNoJournal offset (as_read old.now))
long_torn offset len (Some o) (Some n) long len_is synced torn =
    (omega (arith, len_is o refl, long), subst (λ (s : Stored). IsTorn offset (as_read s)) synced (torn n refl))
long_torn offset len None None long len_is synced torn = tt
long_torn offset len (Some o) None long len_is synced torn = absurd synced
long_torn offset len None (Some n) long len_is synced torn = absurd synced

pub long_moments : (a b : Option Told) → Syncs a b → Tells a b (λ old new. Since (IsLeftAtOpen old.now) old new)
long_moments (Some o) (Some n) syncs = since_weaker (IsImage o.now) (IsLeftAtOpen o.now) o n
    (λ c image. inl image) syncs
long_moments None None syncs = tt
long_moments (Some o) None syncs = absurd syncs
long_moments None (Some n) syncs = absurd syncs

-- a short disk with a closed gate in the first place
gate_alone : (old : List ℕ) → length old ≤ 1 → overwritten old (record { at = 0; bytes = 0 ∷ [] }) ≡ 0 ∷ []
gate_alone [] short = refl
gate_alone (x ∷ []) short = refl
gate_alone (x ∷ y ∷ old) short = absurd (omega arith)

pub short_writes : (len : ℕ) (a b : Option Told) → len ≤ 1 → ((t : Told) → a ≡ Some t → len ≡ length (as_read t.now))
    → Writes a b 0 (0 ∷ []) → Tells a b (λ old new. Since (IsLeftAtOpen old.now) old new)
short_writes len (Some o) (Some n) short len_is writes =
    since_weaker (IsImage (wrote o.now (record { at = 0; bytes = 0 ∷ [] }))) (IsLeftAtOpen o.now) o n
    (λ c image. inr (
      omega (arith, len_is o refl, short),
      omega (arith, image.no_longer, ap length (gate_alone (as_read o.now) (omega (arith, len_is o refl, short)))),
    ))
    writes
short_writes len None None short len_is writes = tt
short_writes len (Some o) None short len_is writes = absurd writes
short_writes len None (Some n) short len_is writes = absurd writes

pub short_opened : (len : ℕ) (bodies : List (List ℕ)) (a b : Option Told) → len ≤ 1 → bodies ≡ []
    → ((t : Told) → a ≡ Some t → len ≡ length (as_read t.now)) → Lasts a b 0 (0 ∷ [])
    → Tells a b (λ old new. Holds bodies (as_read old.now) × IsAtRest 0 bodies new)
short_opened len bodies (Some o) (Some n) short none len_is lasts =
    let few : length (as_read o.now) ≤ 1 = omega (arith, len_is o refl, short) in (
      inr (few, none),
      subst (λ (bs : List (List ℕ)). IsAtRest 0 bs n) (sym none)
          (record {
            front = [];
            rest = [];
            records = refl;
            end_is = refl;
            lasting = lasts
                ∙ ap settled (gate_alone (as_read o.now) few);
          }),
    )
short_opened len bodies None None short none len_is lasts = tt
short_opened len bodies (Some o) None short none len_is lasts = absurd lasts
short_opened len bodies None (Some n) short none len_is lasts = absurd lasts
