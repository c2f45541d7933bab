-- Conflicts in the subject's words: another transaction holds what a read, or an own line, may not pass.
use Rattle.std.specs.Prelude.{◌≡◌, ◌⊎◌, ℕ, true, false, List, [], ◌∷◌, Option, Some, None}
use Rattle.std.specs.declared.cmp.Ordering.TheVariants.{Greater}
use Rattle.qc_stamp.specs.declared.stamp.TxId.{TxId}
use Rattle.qc_entry.specs.declared.line.OwnLine.{OwnLine}
use Rattle.qc_entry.specs.declared.line.ReadLock.{ReadLock}
use Rattle.qc_table.specs.Vocabulary.{depends}
use Rattle.qc_lock.specs.declared.clash.Clash.{Clash}
use Rattle.qc_lock.specs.declared.held.Held.{Held}
use Rattle.qc_lock.specs.Held.{same_tx}
use Rattle.qc_lock.specs.Clash.{clash_cmp}

-- membership, by recursion
abbrev pub In : {A : Type 0} → A → List A → Type 0
In x [] = ⊥
In x (y ∷ ys) = (x ≡ y) ⊎ In x ys

-- another transaction holds an own line of the object on whose event the invocation depends
pub record IsReadConflict (relation : List ℕ) (held : List Held) (tx : TxId) (object inv : ℕ) (clash : Clash)
    : Type 0 where
  pub holder : Held
  pub line : OwnLine
  pub holds : In holder held
  pub another : same_tx holder.tx tx ≡ false
  pub own : In line holder.own
  pub here : line.object ≡ object
  pub depended : depends relation inv line.event ≡ true
  pub told : clash ≡ record { holder = holder.tx; inv = inv; event = line.event }

-- another transaction holds a read lock of a given line's object, and its invocation depends on the line's event
pub record IsAppendConflict (relation : List ℕ) (held : List Held) (tx : TxId) (own : List OwnLine) (clash : Clash)
    : Type 0 where
  pub line : OwnLine
  pub holder : Held
  pub lock : ReadLock
  pub given : In line own
  pub holds : In holder held
  pub another : same_tx holder.tx tx ≡ false
  pub locked : In lock holder.locks
  pub here : lock.object ≡ line.object
  pub depended : depends relation lock.inv line.event ≡ true
  pub told : clash ≡ record { holder = holder.tx; inv = lock.inv; event = line.event }

-- the answer is the smallest conflict, by holder, invocation and event, and none just where there is no conflict
abbrev pub IsSmallest : (Clash → Type 0) → Option Clash → Type 0
IsSmallest IsConflict None = (clash : Clash) → IsConflict clash → ⊥
IsSmallest IsConflict (Some least) =
    IsConflict least × ((clash : Clash) → IsConflict clash → clash_cmp least clash ≡ Greater → ⊥)
