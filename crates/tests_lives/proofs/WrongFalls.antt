-- None of these is due: what sites do wrong where a record isn't written, and about their falls.
use Rattle.std.proofs.Common.{◌≡◌, ℕ, [], ap}
use Rattle.qc_decl.specs.Vocabulary.{three}
use Rattle.qc_promise.specs.Vocabulary.{AreDue}
use Rattle.tests_lives.proofs.Figures.{figure_of}
use Rattle.tests_lives.proofs.Places.{post_at}
use Rattle.tests_lives.specs.WrongFalls as wrong_falls

differs_0_2 : ◌≡◌ {A = ℕ} 0 2 → ⊥
differs_0_2 e = let never : ⊥ = cc in never

differs_0_3 : ◌≡◌ {A = ℕ} 0 3 → ⊥
differs_0_3 e = let never : ⊥ = cc in never

differs_1_2 : ◌≡◌ {A = ℕ} 1 2 → ⊥
differs_1_2 e = let never : ⊥ = cc in never

differs_1_3 : ◌≡◌ {A = ℕ} 1 3 → ⊥
differs_1_3 e = let never : ⊥ = cc in never

differs_2_3 : ◌≡◌ {A = ℕ} 2 3 → ⊥
differs_2_3 e = let never : ⊥ = cc in never

differs_3_2 : ◌≡◌ {A = ℕ} 3 2 → ⊥
differs_3_2 e = let never : ⊥ = cc in never

differs_3_5 : ◌≡◌ {A = ℕ} 3 5 → ⊥
differs_3_5 e = let never : ⊥ = cc in never

differs_5_3 : ◌≡◌ {A = ℕ} 5 3 → ⊥
differs_5_3 e = let never : ⊥ = cc in never

differs_7_6 : ◌≡◌ {A = ℕ} 7 6 → ⊥
differs_7_6 e = let never : ⊥ = cc in never

pub asks_and_falls_refused : AreDue three [] wrong_falls.asks_and_falls → ⊥
asks_and_falls_refused all = differs_3_5 (ap (figure_of 0 0) (post_at 10 three [] wrong_falls.asks_and_falls all))

pub says_fault_and_stays_up_refused : AreDue three [] wrong_falls.says_fault_and_stays_up → ⊥
says_fault_and_stays_up_refused all =
    differs_3_2 (ap (figure_of 0 0) (post_at 4 three [] wrong_falls.says_fault_and_stays_up all))

pub fails_without_fault_refused : AreDue three [] wrong_falls.fails_without_fault → ⊥
fails_without_fault_refused all =
    differs_5_3 (ap (figure_of 0 0) (post_at 4 three [] wrong_falls.fails_without_fault all))

pub stops_with_fault_refused : AreDue three [] wrong_falls.stops_with_fault → ⊥
stops_with_fault_refused all = differs_3_5 (ap (figure_of 0 0) (post_at 4 three [] wrong_falls.stops_with_fault all))

pub says_yes_and_falls_refused : AreDue three [] wrong_falls.says_yes_and_falls → ⊥
says_yes_and_falls_refused all =
    differs_7_6 (ap (figure_of 0 4) (post_at 4 three [] wrong_falls.says_yes_and_falls all))

pub falls_with_another_promise_refused : AreDue three [] wrong_falls.falls_with_another_promise → ⊥
falls_with_another_promise_refused all =
    differs_1_2 (ap (figure_of 1 3) (post_at 4 three [] wrong_falls.falls_with_another_promise all))

pub falls_with_nothing_pending_refused : AreDue three [] wrong_falls.falls_with_nothing_pending → ⊥
falls_with_nothing_pending_refused all =
    differs_1_3 (ap (figure_of 1 1) (post_at 4 three [] wrong_falls.falls_with_nothing_pending all))

pub writes_and_falls_refused : AreDue three [] wrong_falls.writes_and_falls → ⊥
writes_and_falls_refused all = differs_2_3 (ap (figure_of 0 0) (post_at 4 three [] wrong_falls.writes_and_falls all))

pub says_yes_before_its_record_refused : AreDue three [] wrong_falls.says_yes_before_its_record → ⊥
says_yes_before_its_record_refused all =
    differs_3_2 (ap (figure_of 0 0) (post_at 2 three [] wrong_falls.says_yes_before_its_record all))

pub posts_after_its_fall_refused : AreDue three [] wrong_falls.posts_after_its_fall → ⊥
posts_after_its_fall_refused all =
    differs_0_3 (ap (figure_of 0 0) (post_at 0 three [] wrong_falls.posts_after_its_fall all))

pub writes_after_its_fall_refused : AreDue three [] wrong_falls.writes_after_its_fall → ⊥
writes_after_its_fall_refused all =
    differs_0_2 (ap (figure_of 0 0) (post_at 2 three [] wrong_falls.writes_after_its_fall all))

pub falls_within_a_post_refused : AreDue three [] wrong_falls.falls_within_a_post → ⊥
falls_within_a_post_refused all =
    differs_0_3 (ap (figure_of 1 0) (post_at 2 three [] wrong_falls.falls_within_a_post all))
