-- No disk has to do with an input that its actor took: a store goes on with it, and so does the disk of one that was
-- given up.
use Rattle.std.proofs.Common.{ℕ, Bool, List, [], ◌∷◌, Option, refl}
use Rattle.qc_decl.specs.declared.declaration.Declaration.{Declaration}
use Rattle.qc_msg.specs.Vocabulary.{Entry, step_of}
use Rattle.qc_msg.specs.declared.step.Input.{Input}
use Rattle.qc_msg.specs.declared.step.Input.TheVariants as inputs
use Rattle.qc_msg.specs.declared.step.Step.{Step}
use Rattle.qc_outside.specs.Vocabulary.{Told}
use Rattle.qc_process.specs.Vocabulary.{Goes, IsOnDisk, IsStored, StoreView}
use Rattle.qc_process.proofs.Going.{plain_on}
use Rattle.qc_process.proofs.Plain.{ArePlain}
use Rattle.qc_process.proofs.Told.{told_plain}

pub plain_input : (input : Input) → ArePlain (step_of input ∷ [])
plain_input (inputs.Called command) = (refl, tt)
plain_input (inputs.Got envelope) = (refl, tt)
plain_input (inputs.Lost number) = (refl, tt)

module _ (tells : Bool) (decl : Declaration) (a : ℕ) (h now : List Entry) where
  -- a store, where others went on, and where its actor took an input

  pub stored_past_others : (s : StoreView) → Goes a h [] now → IsStored tells decl a h s → IsStored tells decl a now s
  stored_past_others s goes is = plain_on tells decl a h now [] s s tt refl refl refl goes is

  pub stored_past_input : (s : StoreView) (input : Input) → Goes a h (step_of input ∷ []) now
      → IsStored tells decl a h s → IsStored tells decl a now s
  stored_past_input s input goes is =
      plain_on tells decl a h now (step_of input ∷ []) s s (plain_input input) refl refl refl goes is

  -- a disk, likewise

  on_disk_past : (told : Option Told) (count : ℕ) (own : List Step) → ArePlain own → Goes a h own now
      → IsOnDisk tells decl a h told count → IsOnDisk tells decl a now told count
  on_disk_past told count own plain goes is = record {
    records = is.records;
    account = is.account;
    told_by = told_plain tells decl a h now is.records is.account own plain goes is.told_by;
    still = is.still;
    holds = is.holds;
    counted = is.counted;
  }

  pub on_disk_past_others : (told : Option Told) (count : ℕ) → Goes a h [] now
      → IsOnDisk tells decl a h told count → IsOnDisk tells decl a now told count
  on_disk_past_others told count goes is = on_disk_past told count [] tt goes is

  pub on_disk_past_input : (told : Option Told) (count : ℕ) (input : Input) → Goes a h (step_of input ∷ []) now
      → IsOnDisk tells decl a h told count → IsOnDisk tells decl a now told count
  on_disk_past_input told count input goes is =
      on_disk_past told count (step_of input ∷ []) (plain_input input) goes is
