-- None of these is due: sites that rise closed, or in an installed epoch.
use Rattle.std.proofs.Common.{◌≡◌, ℕ, [], ap}
use Rattle.qc_msg.specs.Vocabulary.{deeds}
use Rattle.tests_due.proofs.SitePlaces.{count_records, count_sends, lines_granted, site_due_at}
use Rattle.tests_epochs.specs.Declarations.{three_epochs}
use Rattle.tests_epochs.specs.Whole.{IsSiteDueIn}
use Rattle.tests_epochs.proofs.Parts.{is_closed_told, promises_told}
use Rattle.tests_epochs.specs.WrongRisenSites as wrong_risen_sites

a_closed_site_grants_differs : ◌≡◌ {A = ℕ} 0 1 → ⊥
a_closed_site_grants_differs e = let never : ⊥ = cc in never

pub a_closed_site_grants_refused : IsSiteDueIn three_epochs 0 wrong_risen_sites.a_closed_site_grants → ⊥
a_closed_site_grants_refused all =
    a_closed_site_grants_differs
    (ap is_closed_told (site_due_at 6 three_epochs [] (deeds 0 [] wrong_risen_sites.a_closed_site_grants) all))

a_told_promise_forgotten_differs : ◌≡◌ {A = ℕ} 0 1 → ⊥
a_told_promise_forgotten_differs e = let never : ⊥ = cc in never

pub a_told_promise_forgotten_refused : IsSiteDueIn three_epochs 0 wrong_risen_sites.a_told_promise_forgotten → ⊥
a_told_promise_forgotten_refused all =
    a_told_promise_forgotten_differs
    (ap promises_told (site_due_at 12 three_epochs [] (deeds 0 [] wrong_risen_sites.a_told_promise_forgotten) all))

a_promise_unasked_differs : ◌≡◌ {A = ℕ} 0 1 → ⊥
a_promise_unasked_differs e = let never : ⊥ = cc in never

pub a_promise_unasked_refused : IsSiteDueIn three_epochs 0 wrong_risen_sites.a_promise_unasked → ⊥
a_promise_unasked_refused all =
    a_promise_unasked_differs
    (ap count_sends (site_due_at 9 three_epochs [] (deeds 0 [] wrong_risen_sites.a_promise_unasked) all))

closed_again_differs : ◌≡◌ {A = ℕ} 1 0 → ⊥
closed_again_differs e = let never : ⊥ = cc in never

pub closed_again_refused : IsSiteDueIn three_epochs 0 wrong_risen_sites.closed_again → ⊥
closed_again_refused all =
    closed_again_differs (ap count_records
    (site_due_at 12 three_epochs [] (deeds 0 [] wrong_risen_sites.closed_again) all))

an_epoch_forgotten_differs : ◌≡◌ {A = ℕ} 0 1 → ⊥
an_epoch_forgotten_differs e = let never : ⊥ = cc in never

pub an_epoch_forgotten_refused : IsSiteDueIn three_epochs 1 wrong_risen_sites.an_epoch_forgotten → ⊥
an_epoch_forgotten_refused all =
    an_epoch_forgotten_differs
    (ap is_closed_told (site_due_at 13 three_epochs [] (deeds 1 [] wrong_risen_sites.an_epoch_forgotten) all))

installed_lines_forgotten_differs : ◌≡◌ {A = ℕ} 0 1 → ⊥
installed_lines_forgotten_differs e = let never : ⊥ = cc in never

pub installed_lines_forgotten_refused : IsSiteDueIn three_epochs 1 wrong_risen_sites.installed_lines_forgotten → ⊥
installed_lines_forgotten_refused all =
    installed_lines_forgotten_differs
    (ap lines_granted (site_due_at 16 three_epochs [] (deeds 1 [] wrong_risen_sites.installed_lines_forgotten) all))
