-- None of these is due: what sites tell wrong to who has a mark.
use Rattle.std.proofs.Common.{◌≡◌, ℕ, [], ap}
use Rattle.qc_decl.specs.Vocabulary.{three}
use Rattle.qc_promise.specs.Vocabulary.{AreDue}
use Rattle.tests_lives.proofs.Figures.{figure_of}
use Rattle.tests_lives.proofs.Places.{post_at}
use Rattle.tests_lives.specs.WrongMarks as wrong_marks

differs_1_2 : ◌≡◌ {A = ℕ} 1 2 → ⊥
differs_1_2 e = let never : ⊥ = cc in never

differs_1_3 : ◌≡◌ {A = ℕ} 1 3 → ⊥
differs_1_3 e = let never : ⊥ = cc in never

differs_2_3 : ◌≡◌ {A = ℕ} 2 3 → ⊥
differs_2_3 e = let never : ⊥ = cc in never

differs_3_1 : ◌≡◌ {A = ℕ} 3 1 → ⊥
differs_3_1 e = let never : ⊥ = cc in never

differs_3_2 : ◌≡◌ {A = ℕ} 3 2 → ⊥
differs_3_2 e = let never : ⊥ = cc in never

differs_4_3 : ◌≡◌ {A = ℕ} 4 3 → ⊥
differs_4_3 e = let never : ⊥ = cc in never

differs_6_3 : ◌≡◌ {A = ℕ} 6 3 → ⊥
differs_6_3 e = let never : ⊥ = cc in never

pub counts_in_line_order_refused : AreDue three [] wrong_marks.counts_in_line_order → ⊥
counts_in_line_order_refused all =
    differs_6_3 (ap (figure_of 0 9) (post_at 4 three [] wrong_marks.counts_in_line_order all))

pub tells_all_again_refused : AreDue three [] wrong_marks.tells_all_again → ⊥
tells_all_again_refused all =
    differs_3_2 (ap (figure_of 0 7) (post_at 4 three [] wrong_marks.tells_all_again all))

pub counts_what_it_tells_refused : AreDue three [] wrong_marks.counts_what_it_tells → ⊥
counts_what_it_tells_refused all =
    differs_2_3 (ap (figure_of 0 8) (post_at 4 three [] wrong_marks.counts_what_it_tells all))

pub tells_one_line_too_few_refused : AreDue three [] wrong_marks.tells_one_line_too_few → ⊥
tells_one_line_too_few_refused all =
    differs_1_2 (ap (figure_of 0 7) (post_at 4 three [] wrong_marks.tells_one_line_too_few all))

pub believes_a_mark_of_another_life_refused : AreDue three [] wrong_marks.believes_a_mark_of_another_life → ⊥
believes_a_mark_of_another_life_refused all =
    differs_2_3 (ap (figure_of 0 7) (post_at 4 three [] wrong_marks.believes_a_mark_of_another_life all))

pub believes_a_mark_of_another_epoch_refused : AreDue three [] wrong_marks.believes_a_mark_of_another_epoch → ⊥
believes_a_mark_of_another_epoch_refused all =
    differs_2_3 (ap (figure_of 0 7) (post_at 4 three [] wrong_marks.believes_a_mark_of_another_epoch all))

pub believes_a_mark_of_more_lines_refused : AreDue three [] wrong_marks.believes_a_mark_of_more_lines → ⊥
believes_a_mark_of_more_lines_refused all =
    differs_1_3 (ap (figure_of 0 7) (post_at 4 three [] wrong_marks.believes_a_mark_of_more_lines all))

pub counts_on_in_its_next_life_refused : AreDue three [] wrong_marks.counts_on_in_its_next_life → ⊥
counts_on_in_its_next_life_refused all =
    differs_3_1 (ap (figure_of 0 8) (post_at 7 three [] wrong_marks.counts_on_in_its_next_life all))

pub counts_for_a_granted_append_refused : AreDue three [] wrong_marks.counts_for_a_granted_append → ⊥
counts_for_a_granted_append_refused all =
    differs_3_1 (ap (figure_of 0 8) (post_at 2 three [] wrong_marks.counts_for_a_granted_append all))

pub counts_twice_what_came_twice_refused : AreDue three [] wrong_marks.counts_twice_what_came_twice → ⊥
counts_twice_what_came_twice_refused all =
    differs_4_3 (ap (figure_of 0 8) (post_at 4 three [] wrong_marks.counts_twice_what_came_twice all))
