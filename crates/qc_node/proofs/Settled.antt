-- What the disks that all went back tell of a run: its falls are spent, its records kept, and the places hold its
-- journals.
use Rattle.std.proofs.Common.{◌≡◌, ℕ, ◌-◌, ◌^◌, ◌<◌, ◌≤◌, Bool, true, List, Option, None, refl, arith}
use Rattle.qc_core.specs.Vocabulary.{IsLawfulWithFalls}
use Rattle.qc_decl.specs.Vocabulary.{actors, controller, most_steps}
use Rattle.qc_decl.specs.declared.declaration.Declaration.{Declaration}
use Rattle.qc_msg.specs.Vocabulary.{Entry}
use Rattle.qc_outside.specs.Vocabulary.{Places}
use Rattle.qc_promise.specs.Vocabulary.{Kept, Spent}
use Rattle.qc_script.specs.Vocabulary.{RunsWithFalls}
use Rattle.qc_script.specs.declared.script.Script.{Script}
use Rattle.qc_fabric.specs.Vocabulary.{before_last_event, begins_event, full_of}
use Rattle.qc_fabric.proofs.Limits.{none_reached}
use Rattle.laws_bounds.specs.Vocabulary.{AreControlsBelow, AreFaultsBelow, HoldJournals, IsDamagedWithin}
use Rattle.laws_bounds.proofs.BackPlaces.{all_back}
use Rattle.laws_bounds.proofs.Counted.{all_visited}
use Rattle.laws_bounds.proofs.Falls.{all_below_spent}
use Rattle.laws_bounds.proofs.Kept.{run_kept}
use Rattle.laws_bounds.proofs.Limits.{damage_is_found_within_the_limit}
use Rattle.laws_bounds.proofs.RunFaults.{run_faults, script_sound}
use Rattle.qc_node.specs.Vocabulary.{IsRunnable, IsSettling, fits_of}

more_spent : (h : List Entry) (n m : ℕ) → n ≤ m → Spent h n → Spent h m
more_spent h n m less spent = record { falls = omega (arith, spent.falls, less); in_time = spent.in_time }

module _ (folder : Option (List ℕ)) (tells : Bool) (decl : Declaration) (script : Script) (h : List Entry)
    (inputs : List Bool)
    (run : RunsWithFalls (IsLawfulWithFalls decl) (fits_of decl) decl script h inputs)
    (runnable : IsRunnable decl script) (rooms : List ℕ) (before now : ℕ) (places : Option Places)
    (s : IsSettling folder tells decl h rooms (controller decl) before now places) where
  visited : (a : ℕ) → a < controller decl → s.visited a ≡ true
  visited a low = all_visited (controller decl) a s.visited s.counted low

  few : actors decl ≤ controller decl
  few = omega arith

  below : AreControlsBelow (controller decl) script
  below = script_sound decl script runnable.declared

  faults : AreFaultsBelow (controller decl) h
  faults = run_faults (IsLawfulWithFalls decl) (fits_of decl) decl script (controller decl) h inputs few below run

  -- the count may have risen before
  pub settled_spent : (first : ℕ) → first ≤ before → now < 2 ^ 64 - 1 → Spent h (now - first)
  settled_spent first later short =
      more_spent h (now - before) (now - first) (omega (arith, later))
      (all_below_spent (controller decl) h s.visited before now visited short faults
      (λ a low. s.in_time a (visited a low)) s.spent)

  pub settled_kept : full_of (before_last_event h) ≡ None → tells ≡ true → Kept h
  settled_kept limits tell =
      let within : IsDamagedWithin most_steps h =
      damage_is_found_within_the_limit begins_event most_steps h (λ offset. refl)
      (none_reached (before_last_event h) limits).steps in
      run_kept decl script (controller decl) (fits_of decl) h inputs runnable.accepted runnable.declared few below run
      within (λ a low. s.kept tell a (visited a low))

  pub settled_places : HoldJournals folder decl h places
  settled_places = all_back folder decl (controller decl) h s.visited places (omega arith) visited s.back
