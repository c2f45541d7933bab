-- What holds of all that is held: each transaction has one entry, which holds something, each thing once.
use Rattle.std.specs.Prelude.{◌+◌, ◌<◌, List, [], ◌∷◌, length}
use Rattle.qc_list.specs.Vocabulary.{Ascends}
use Rattle.qc_lock.specs.declared.held.Held.{Held}
use Rattle.qc_lock.specs.Held.{lock_cmp, own_cmp}
use Rattle.qc_lock.specs.TransactionMap.{IsOneForEach}

-- the locks and own lines of each entry ascend
abbrev pub AreSorted : List Held → Type 0
AreSorted [] = Unit {0}
AreSorted (h ∷ hs) = Ascends lock_cmp h.locks × Ascends own_cmp h.own × AreSorted hs

-- each transaction has one entry at most
abbrev pub IsSingle : List Held → Type 0
IsSingle held = IsOneForEach (λ h. h.tx) held

-- each entry has a lock or an own line
abbrev pub AreFull : List Held → Type 0
AreFull [] = Unit {0}
AreFull (h ∷ hs) = (0 < length h.locks + length h.own) × AreFull hs

-- all three
pub record IsSound (held : List Held) : Type 0 where
  pub single : IsSingle held
  pub full : AreFull held
  pub sorted : AreSorted held
