-- None of these is due: the administrator doesn't act by turns.
use Rattle.std.proofs.Common.{◌≡◌, Bool, true, false}
use Rattle.tests_epochs.specs.Declarations.{three_epochs}
use Rattle.tests_epochs.specs.Whole.{AreAdminTurns}
use Rattle.tests_epochs.specs.WrongAdminTurns as wrong_admin_turns

fallen_untold_differs : ◌≡◌ {A = Bool} false true → ⊥
fallen_untold_differs e = let never : ⊥ = cc in never

pub fallen_untold_refused : AreAdminTurns three_epochs wrong_admin_turns.fallen_untold → ⊥
fallen_untold_refused all = fallen_untold_differs all

life_between_differs : ◌≡◌ {A = Bool} false true → ⊥
life_between_differs e = let never : ⊥ = cc in never

pub life_between_refused : AreAdminTurns three_epochs wrong_admin_turns.life_between → ⊥
life_between_refused all = life_between_differs all

installed_first_differs : ◌≡◌ {A = Bool} false true → ⊥
installed_first_differs e = let never : ⊥ = cc in never

pub installed_first_refused : AreAdminTurns three_epochs wrong_admin_turns.installed_first → ⊥
installed_first_refused all = installed_first_differs all

down_while_up_differs : ◌≡◌ {A = Bool} false true → ⊥
down_while_up_differs e = let never : ⊥ = cc in never

pub down_while_up_refused : AreAdminTurns three_epochs wrong_admin_turns.down_while_up → ⊥
down_while_up_refused all = down_while_up_differs all
