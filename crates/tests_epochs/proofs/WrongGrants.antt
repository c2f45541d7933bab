-- None of these is due: sites that grant what the next epoch doesn't let them.
use Rattle.std.proofs.Common.{◌≡◌, ℕ, [], ap}
use Rattle.qc_msg.specs.Vocabulary.{deeds}
use Rattle.tests_due.proofs.SitePlaces.{clock_granted, lines_granted, site_due_at}
use Rattle.tests_epochs.specs.Declarations.{three_epochs}
use Rattle.tests_epochs.specs.Whole.{IsSiteDueIn}
use Rattle.tests_epochs.proofs.Parts.{is_clash_told, is_closed_told, life_granted}
use Rattle.tests_epochs.specs.WrongGrants as wrong_grants

granted_in_a_closed_epoch_differs : ◌≡◌ {A = ℕ} 0 1 → ⊥
granted_in_a_closed_epoch_differs e = let never : ⊥ = cc in never

pub granted_in_a_closed_epoch_refused : IsSiteDueIn three_epochs 1 wrong_grants.granted_in_a_closed_epoch → ⊥
granted_in_a_closed_epoch_refused all =
    granted_in_a_closed_epoch_differs
    (ap is_closed_told (site_due_at 13 three_epochs [] (deeds 1 [] wrong_grants.granted_in_a_closed_epoch) all))

granted_without_installed_lines_differs : ◌≡◌ {A = ℕ} 0 1 → ⊥
granted_without_installed_lines_differs e = let never : ⊥ = cc in never

pub granted_without_installed_lines_refused : IsSiteDueIn three_epochs 1 wrong_grants.granted_without_installed_lines
    → ⊥
granted_without_installed_lines_refused all =
    granted_without_installed_lines_differs
    (ap lines_granted (site_due_at 16 three_epochs [] (deeds 1 [] wrong_grants.granted_without_installed_lines) all))

granted_below_installed_clock_differs : ◌≡◌ {A = ℕ} 0 4 → ⊥
granted_below_installed_clock_differs e = let never : ⊥ = cc in never

pub granted_below_installed_clock_refused : IsSiteDueIn three_epochs 1 wrong_grants.granted_below_installed_clock → ⊥
granted_below_installed_clock_refused all =
    granted_below_installed_clock_differs
    (ap clock_granted (site_due_at 14 three_epochs [] (deeds 1 [] wrong_grants.granted_below_installed_clock) all))

granted_in_the_first_life_differs : ◌≡◌ {A = ℕ} 1 2 → ⊥
granted_in_the_first_life_differs e = let never : ⊥ = cc in never

pub granted_in_the_first_life_refused : IsSiteDueIn three_epochs 1 wrong_grants.granted_in_the_first_life → ⊥
granted_in_the_first_life_refused all =
    granted_in_the_first_life_differs
    (ap life_granted (site_due_at 16 three_epochs [] (deeds 1 [] wrong_grants.granted_in_the_first_life) all))

refused_for_what_was_dropped_differs : ◌≡◌ {A = ℕ} 1 0 → ⊥
refused_for_what_was_dropped_differs e = let never : ⊥ = cc in never

pub refused_for_what_was_dropped_refused : IsSiteDueIn three_epochs 1 wrong_grants.refused_for_what_was_dropped → ⊥
refused_for_what_was_dropped_refused all =
    refused_for_what_was_dropped_differs
    (ap is_clash_told (site_due_at 11 three_epochs [] (deeds 1 [] wrong_grants.refused_for_what_was_dropped) all))
