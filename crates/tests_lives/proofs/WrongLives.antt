-- None of these is due: what sites do wrong in the life that they rose to.
use Rattle.std.proofs.Common.{◌≡◌, ℕ, [], ap}
use Rattle.qc_decl.specs.Vocabulary.{three}
use Rattle.qc_promise.specs.Vocabulary.{AreDue}
use Rattle.tests_lives.proofs.Figures.{figure_of}
use Rattle.tests_lives.proofs.Places.{post_at}
use Rattle.tests_lives.specs.WrongLives as wrong_lives

differs_1_2 : ◌≡◌ {A = ℕ} 1 2 → ⊥
differs_1_2 e = let never : ⊥ = cc in never

differs_2_0 : ◌≡◌ {A = ℕ} 2 0 → ⊥
differs_2_0 e = let never : ⊥ = cc in never

differs_2_1 : ◌≡◌ {A = ℕ} 2 1 → ⊥
differs_2_1 e = let never : ⊥ = cc in never

differs_2_3 : ◌≡◌ {A = ℕ} 2 3 → ⊥
differs_2_3 e = let never : ⊥ = cc in never

differs_3_2 : ◌≡◌ {A = ℕ} 3 2 → ⊥
differs_3_2 e = let never : ⊥ = cc in never

differs_4_3 : ◌≡◌ {A = ℕ} 4 3 → ⊥
differs_4_3 e = let never : ⊥ = cc in never

differs_5_4 : ◌≡◌ {A = ℕ} 5 4 → ⊥
differs_5_4 e = let never : ⊥ = cc in never

pub keeps_what_it_held_refused : AreDue three [] wrong_lives.keeps_what_it_held → ⊥
keeps_what_it_held_refused all =
    differs_3_2 (ap (figure_of 0 4) (post_at 5 three [] wrong_lives.keeps_what_it_held all))

pub grants_in_its_old_life_refused : AreDue three [] wrong_lives.grants_in_its_old_life → ⊥
grants_in_its_old_life_refused all =
    differs_2_3 (ap (figure_of 0 5) (post_at 5 three [] wrong_lives.grants_in_its_old_life all))

pub its_life_grows_twice_refused : AreDue three [] wrong_lives.its_life_grows_twice → ⊥
its_life_grows_twice_refused all =
    differs_4_3 (ap (figure_of 0 5) (post_at 5 three [] wrong_lives.its_life_grows_twice all))

pub loses_what_it_promised_refused : AreDue three [] wrong_lives.loses_what_it_promised → ⊥
loses_what_it_promised_refused all =
    differs_2_3 (ap (figure_of 0 4) (post_at 13 three [] wrong_lives.loses_what_it_promised all))

pub loses_the_lines_of_its_done_refused : AreDue three [] wrong_lives.loses_the_lines_of_its_done → ⊥
loses_the_lines_of_its_done_refused all =
    differs_1_2 (ap (figure_of 0 7) (post_at 14 three [] wrong_lives.loses_the_lines_of_its_done all))

pub its_clock_is_below_its_records_refused : AreDue three [] wrong_lives.its_clock_is_below_its_records → ⊥
its_clock_is_below_its_records_refused all =
    differs_1_2 (ap (figure_of 0 6) (post_at 14 three [] wrong_lives.its_clock_is_below_its_records all))

pub keeps_lines_that_came_with_views_refused : AreDue three [] wrong_lives.keeps_lines_that_came_with_views → ⊥
keeps_lines_that_came_with_views_refused all =
    differs_2_1 (ap (figure_of 0 7) (post_at 9 three [] wrong_lives.keeps_lines_that_came_with_views all))

pub keeps_its_clock_of_before_refused : AreDue three [] wrong_lives.keeps_its_clock_of_before → ⊥
keeps_its_clock_of_before_refused all =
    differs_2_1 (ap (figure_of 0 6) (post_at 9 three [] wrong_lives.keeps_its_clock_of_before all))

pub votes_for_its_old_life_refused : AreDue three [] wrong_lives.votes_for_its_old_life → ⊥
votes_for_its_old_life_refused all =
    differs_2_3 (ap (figure_of 0 0) (post_at 7 three [] wrong_lives.votes_for_its_old_life all))

pub says_stale_to_its_old_life_refused : AreDue three [] wrong_lives.says_stale_to_its_old_life → ⊥
says_stale_to_its_old_life_refused all =
    differs_5_4 (ap (figure_of 0 4) (post_at 7 three [] wrong_lives.says_stale_to_its_old_life all))

pub restarted_with_its_old_life_refused : AreDue three [] wrong_lives.restarted_with_its_old_life → ⊥
restarted_with_its_old_life_refused all =
    differs_2_3 (ap (figure_of 0 5) (post_at 7 three [] wrong_lives.restarted_with_its_old_life all))

pub holds_for_ever_refused : AreDue three [] wrong_lives.holds_for_ever → ⊥
holds_for_ever_refused all = differs_3_2 (ap (figure_of 0 4) (post_at 15 three [] wrong_lives.holds_for_ever all))

pub redeems_twice_refused : AreDue three [] wrong_lives.redeems_twice → ⊥
redeems_twice_refused all = differs_2_0 (ap (figure_of 0 0) (post_at 15 three [] wrong_lives.redeems_twice all))
