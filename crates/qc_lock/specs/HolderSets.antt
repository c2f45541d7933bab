-- Where what is held stands in the index: by object, then the invocation of a read or the event of an own line, then
-- the transaction that holds it.
use Rattle.std.specs.Prelude.{◌≡◌, ℕ, ◌<◌, Bool, true, false, ◌==◌, ◌&&◌, not, if◌then◌else◌, List, MatchOption, Option}
use Rattle.std.specs.Prelude.{Some, None}
use Rattle.std.specs.BTreeMap.{is_at}
use Rattle.std.specs.BTreeSet.{BTreeSet, contains}
use Rattle.std.specs.List.{list_any}
use Rattle.std.specs.Ordering.{nat_cmp, on, then_cmp}
use Rattle.std.specs.declared.cmp.Ordering.{Ordering}
use Rattle.std.specs.declared.cmp.Ordering.TheVariants.{Greater}
use Rattle.qc_stamp.specs.declared.stamp.TxId.{TxId}
use Rattle.qc_stamp.specs.Vocabulary.{tx_cmp}
use Rattle.qc_entry.specs.declared.line.OwnLine.{OwnLine}
use Rattle.qc_entry.specs.declared.line.ReadLock.{ReadLock}
use Rattle.qc_table.specs.Vocabulary.{depends}
use Rattle.qc_lock.specs.declared.clash.Clash.{Clash}
use Rattle.qc_lock.specs.declared.held.Held.{Held}
use Rattle.qc_lock.specs.declared.holder_set.HolderKey.{HolderKey}
use Rattle.qc_lock.specs.Clash.{smaller}
use Rattle.qc_lock.specs.Conflict.{In}
use Rattle.qc_lock.specs.Held.{same_tx, held_of}
use Rattle.qc_lock.specs.Sound.{IsSound}

-- places by object, number, transaction
abbrev pub place_cmp : HolderKey → HolderKey → Ordering
place_cmp = then_cmp (on (λ p. p.object) nat_cmp) (then_cmp (on (λ p. p.number) nat_cmp) (on (λ p. p.tx) tx_cmp))

-- whether there is a place of this object, number and transaction
abbrev pub is_there : BTreeSet HolderKey → ℕ → ℕ → TxId → Bool
is_there places object number tx = contains place_cmp places (record { object = object; number = number; tx = tx })

-- new places have this answer at one place, and at others what those before have
abbrev pub Sets : BTreeSet HolderKey → BTreeSet HolderKey → ℕ → ℕ → TxId → Bool → Type 0
Sets before after object number tx there = (q : HolderKey) → contains place_cmp after q
    ≡ (if is_at (place_cmp (record { object = object; number = number; tx = tx })) q
    then there
    else contains place_cmp before q)

-- whether read locks have one of this object and invocation
abbrev pub has_read : List ReadLock → ℕ → ℕ → Bool
has_read locks object inv = list_any (λ (l : ReadLock). (l.object == object) && (l.inv == inv)) locks

-- whether own lines have one of this object and event
abbrev pub has_line : List OwnLine → ℕ → ℕ → Bool
has_line own object event = list_any (λ (l : OwnLine). (l.object == object) && (l.event == event)) own

-- each place is of a number below 256
abbrev pub AreSmall : BTreeSet HolderKey → Type 0
AreSmall places = (tx : TxId) (object number : ℕ) → is_there places object number tx ≡ true → number < 256

-- the places are those that the test passes
pub record IsIndex (places : BTreeSet HolderKey) (test : TxId → ℕ → ℕ → Bool) : Type 0 where
  pub exact : (tx : TxId) (object number : ℕ) → is_there places object number tx ≡ test tx object number
  pub small : AreSmall places

-- the read locks, and the own lines, that transactions hold

abbrev pub reads_held : List Held → TxId → ℕ → ℕ → Bool
reads_held held tx object inv = has_read (held_of held tx).locks object inv

abbrev pub lines_held : List Held → TxId → ℕ → ℕ → Bool
lines_held held tx object event = has_line (held_of held tx).own object event

-- new places are those of before, and of others only such of the transaction as the test passes; all of these, if all
-- went well
pub record Widens (before after : BTreeSet HolderKey) (tx : TxId) (test : ℕ → ℕ → Bool) (all : Bool) : Type 0 where
  pub kept : (other : TxId) (object number : ℕ) → is_there before object number other ≡ true
      → is_there after object number other ≡ true
  pub within : (other : TxId) (object number : ℕ) → is_there after object number other ≡ true
      → is_there before object number other ≡ false
      → (other ≡ tx) × (test object number ≡ true) × (number < 256)
  pub done : all ≡ true → (object number : ℕ) → test object number ≡ true
      → is_there after object number tx ≡ true

-- places of before without those of the transaction that one test passes and another does not
abbrev pub Narrows : BTreeSet HolderKey → BTreeSet HolderKey → TxId → (ℕ → ℕ → Bool) → (ℕ → ℕ → Bool) → Type 0
Narrows before after tx test spared = (other : TxId) (object number : ℕ) → is_there after object number other
    ≡ (is_there before object number other
    && not (same_tx other tx && (test object number && not (spared object number))))

-- the transaction of a place, if that is of this object and number
abbrev pub holder_at : HolderKey → ℕ → ℕ → Option TxId
holder_at place object number = if (place.object == object) && (place.number == number) then Some place.tx else None

-- the first transaction that has a place of this object and number, of those that the test passes
abbrev pub IsFirst : BTreeSet HolderKey → ℕ → ℕ → (TxId → Bool) → Option TxId → Type 0
IsFirst places object number test first = MatchOption first
    ((tx : TxId) → test tx ≡ true → is_there places object number tx ≡ false)
    (λ holder. (is_there places object number holder ≡ true) × (test holder ≡ true)
    × ((tx : TxId) → test tx ≡ true → is_there places object number tx ≡ true → tx_cmp holder tx ≡ Greater → ⊥))

-- another transaction has the place of this object and number, and the invocation depends on the event
pub record IsPlaced (relation : List ℕ) (places : BTreeSet HolderKey) (tx : TxId) (object number inv event : ℕ)
    (clash : Clash) : Type 0 where
  pub there : is_there places object number clash.holder ≡ true
  pub another : same_tx clash.holder tx ≡ false
  pub depended : depends relation inv event ≡ true
  pub inv_is : clash.inv ≡ inv
  pub event_is : clash.event ≡ event

-- the clashes of a read, and of one own line and of several, by places

abbrev pub IsReadPlaced : List ℕ → BTreeSet HolderKey → TxId → ℕ → ℕ → Clash → Type 0
IsReadPlaced relation places tx object inv clash =
    (event : ℕ) × IsPlaced relation places tx object event inv event clash

abbrev pub IsLinePlaced : List ℕ → BTreeSet HolderKey → TxId → OwnLine → Clash → Type 0
IsLinePlaced relation places tx line clash =
    (inv : ℕ) × IsPlaced relation places tx line.object inv inv line.event clash

abbrev pub IsAppendPlaced : List ℕ → BTreeSet HolderKey → TxId → List OwnLine → Clash → Type 0
IsAppendPlaced relation places tx own clash =
    (line : OwnLine) × In line own × IsLinePlaced relation places tx line clash

-- the smaller of two clashes, where there are two
abbrev pub smaller_of : Option Clash → Option Clash → Option Clash
smaller_of None b = b
smaller_of (Some a) None = Some a
smaller_of (Some a) (Some b) = smaller (Some a) b

-- both places are those of what is held, which is sound
pub record AreIndexed (held : List Held) (readers writers : BTreeSet HolderKey) : Type 0 where
  pub sound : IsSound held
  pub reads : IsIndex readers (reads_held held)
  pub lines : IsIndex writers (lines_held held)
