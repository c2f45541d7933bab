-- None of these is due: sites that close and install epochs.
use Rattle.std.proofs.Common.{◌≡◌, ℕ, [], ap}
use Rattle.qc_msg.specs.Vocabulary.{deeds}
use Rattle.tests_due.proofs.SitePlaces.{count_records, site_due_at}
use Rattle.tests_epochs.specs.Declarations.{three_epochs}
use Rattle.tests_epochs.specs.Whole.{IsSiteDueIn}
use Rattle.tests_epochs.proofs.Parts.{clock_told, first_promise, is_closed_told, lines_installed, lines_told}
use Rattle.tests_epochs.proofs.Parts.{promises_told}
use Rattle.tests_epochs.specs.WrongShuts as wrong_shuts

promises_by_their_coming_differs : ◌≡◌ {A = ℕ} 2 0 → ⊥
promises_by_their_coming_differs e = let never : ⊥ = cc in never

pub promises_by_their_coming_refused : IsSiteDueIn three_epochs 0 wrong_shuts.promises_by_their_coming → ⊥
promises_by_their_coming_refused all =
    promises_by_their_coming_differs
    (ap first_promise (site_due_at 10 three_epochs [] (deeds 0 [] wrong_shuts.promises_by_their_coming) all))

a_promise_left_out_differs : ◌≡◌ {A = ℕ} 1 2 → ⊥
a_promise_left_out_differs e = let never : ⊥ = cc in never

pub a_promise_left_out_refused : IsSiteDueIn three_epochs 0 wrong_shuts.a_promise_left_out → ⊥
a_promise_left_out_refused all =
    a_promise_left_out_differs
    (ap promises_told (site_due_at 10 three_epochs [] (deeds 0 [] wrong_shuts.a_promise_left_out) all))

shut_without_a_record_differs : ◌≡◌ {A = ℕ} 0 1 → ⊥
shut_without_a_record_differs e = let never : ⊥ = cc in never

pub shut_without_a_record_refused : IsSiteDueIn three_epochs 0 wrong_shuts.shut_without_a_record → ⊥
shut_without_a_record_refused all =
    shut_without_a_record_differs
    (ap count_records (site_due_at 10 three_epochs [] (deeds 0 [] wrong_shuts.shut_without_a_record) all))

a_line_left_out_differs : ◌≡◌ {A = ℕ} 0 1 → ⊥
a_line_left_out_differs e = let never : ⊥ = cc in never

pub a_line_left_out_refused : IsSiteDueIn three_epochs 0 wrong_shuts.a_line_left_out → ⊥
a_line_left_out_refused all =
    a_line_left_out_differs (ap lines_told (site_due_at 7 three_epochs [] (deeds 0 [] wrong_shuts.a_line_left_out) all))

shut_below_its_clock_differs : ◌≡◌ {A = ℕ} 0 1 → ⊥
shut_below_its_clock_differs e = let never : ⊥ = cc in never

pub shut_below_its_clock_refused : IsSiteDueIn three_epochs 0 wrong_shuts.shut_below_its_clock → ⊥
shut_below_its_clock_refused all =
    shut_below_its_clock_differs
    (ap clock_told (site_due_at 7 three_epochs [] (deeds 0 [] wrong_shuts.shut_below_its_clock) all))

promised_once_closed_differs : ◌≡◌ {A = ℕ} 0 1 → ⊥
promised_once_closed_differs e = let never : ⊥ = cc in never

pub promised_once_closed_refused : IsSiteDueIn three_epochs 0 wrong_shuts.promised_once_closed → ⊥
promised_once_closed_refused all =
    promised_once_closed_differs
    (ap is_closed_told (site_due_at 5 three_epochs [] (deeds 0 [] wrong_shuts.promised_once_closed) all))

installed_without_a_record_differs : ◌≡◌ {A = ℕ} 0 1 → ⊥
installed_without_a_record_differs e = let never : ⊥ = cc in never

pub installed_without_a_record_refused : IsSiteDueIn three_epochs 0 wrong_shuts.installed_without_a_record → ⊥
installed_without_a_record_refused all =
    installed_without_a_record_differs
    (ap count_records (site_due_at 10 three_epochs [] (deeds 0 [] wrong_shuts.installed_without_a_record) all))

installed_without_a_line_differs : ◌≡◌ {A = ℕ} 0 1 → ⊥
installed_without_a_line_differs e = let never : ⊥ = cc in never

pub installed_without_a_line_refused : IsSiteDueIn three_epochs 0 wrong_shuts.installed_without_a_line → ⊥
installed_without_a_line_refused all =
    installed_without_a_line_differs
    (ap lines_installed (site_due_at 10 three_epochs [] (deeds 0 [] wrong_shuts.installed_without_a_line) all))

an_earlier_epoch_installed_differs : ◌≡◌ {A = ℕ} 1 0 → ⊥
an_earlier_epoch_installed_differs e = let never : ⊥ = cc in never

pub an_earlier_epoch_installed_refused : IsSiteDueIn three_epochs 2 wrong_shuts.an_earlier_epoch_installed → ⊥
an_earlier_epoch_installed_refused all =
    an_earlier_epoch_installed_differs
    (ap count_records (site_due_at 3 three_epochs [] (deeds 2 [] wrong_shuts.an_earlier_epoch_installed) all))

redeemed_once_installed_differs : ◌≡◌ {A = ℕ} 1 0 → ⊥
redeemed_once_installed_differs e = let never : ⊥ = cc in never

pub redeemed_once_installed_refused : IsSiteDueIn three_epochs 0 wrong_shuts.redeemed_once_installed → ⊥
redeemed_once_installed_refused all =
    redeemed_once_installed_differs
    (ap count_records (site_due_at 15 three_epochs [] (deeds 0 [] wrong_shuts.redeemed_once_installed) all))
