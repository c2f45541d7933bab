-- What is known while disks go back to the rack, one by one, once every cell has seen the whole history.
use Rattle.std.specs.Prelude.{◌≡◌, ◌≤◌, ℕ, Bool, true, List, Option, Some, IfSome, is_some, slice_get}
use Rattle.qc_decl.specs.Vocabulary.{controller}
use Rattle.qc_decl.specs.declared.declaration.Declaration.{Declaration}
use Rattle.qc_msg.specs.Vocabulary.{Entry, own}
use Rattle.qc_outside.specs.Vocabulary.{Places}
use Rattle.qc_promise.specs.Vocabulary.{IsEverInTime}
use Rattle.laws_bounds.specs.Vocabulary.{AreBackSoFar, AreKeptOrMisfits, IsSpentSoFar, visits_below}

-- So many disks went back, of the actors that were visited, and so these passes have rooms: in their accounts no fault
-- ever waited past its call, and the rack's count rose by their falls from what it was before. The rack tells where the
-- disks of the run do; then records were kept but for misfits, and the places hold the journals.
pub record IsSettling (folder : Option (List ℕ)) (tells : Bool) (decl : Declaration) (h : List Entry)
    (rooms : List ℕ) (count before now : ℕ) (places : Option Places) : Type 0 where
  pub visited : ℕ → Bool
  pub counted : visits_below (controller decl) visited ≡ count
  pub roomed : (a : ℕ) → visited a ≡ true → slice_get rooms a ≡ Some 1
  pub later : before ≤ now
  pub spent : IsSpentSoFar (controller decl) h visited before now
  pub in_time : (a : ℕ) → visited a ≡ true → IsEverInTime a h
  pub kept : tells ≡ true → (a : ℕ) → visited a ≡ true → AreKeptOrMisfits decl a (own a h)
  pub told : is_some places ≡ tells
  pub back : IfSome places (AreBackSoFar folder (controller decl) h visited)
