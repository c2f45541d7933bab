-- None of these is due: what sites do wrong as they rise.
use Rattle.std.proofs.Common.{◌≡◌, ℕ, [], ap}
use Rattle.qc_decl.specs.Vocabulary.{three}
use Rattle.qc_promise.specs.Vocabulary.{AreDue}
use Rattle.tests_lives.proofs.Figures.{figure_of}
use Rattle.tests_lives.proofs.Places.{post_at}
use Rattle.tests_lives.specs.WrongRises as wrong_rises

differs_0_3 : ◌≡◌ {A = ℕ} 0 3 → ⊥
differs_0_3 e = let never : ⊥ = cc in never

differs_2_0 : ◌≡◌ {A = ℕ} 2 0 → ⊥
differs_2_0 e = let never : ⊥ = cc in never

differs_3_0 : ◌≡◌ {A = ℕ} 3 0 → ⊥
differs_3_0 e = let never : ⊥ = cc in never

differs_3_2 : ◌≡◌ {A = ℕ} 3 2 → ⊥
differs_3_2 e = let never : ⊥ = cc in never

differs_5_4 : ◌≡◌ {A = ℕ} 5 4 → ⊥
differs_5_4 e = let never : ⊥ = cc in never

pub writes_life_twice_as_it_rises_refused : AreDue three [] wrong_rises.writes_life_twice_as_it_rises → ⊥
writes_life_twice_as_it_rises_refused all =
    differs_2_0 (ap (figure_of 1 0) (post_at 3 three [] wrong_rises.writes_life_twice_as_it_rises all))

pub asks_nobody_about_its_promise_refused : AreDue three [] wrong_rises.asks_nobody_about_its_promise → ⊥
asks_nobody_about_its_promise_refused all =
    differs_0_3 (ap (figure_of 1 0) (post_at 10 three [] wrong_rises.asks_nobody_about_its_promise all))

pub asks_about_no_promise_refused : AreDue three [] wrong_rises.asks_about_no_promise → ⊥
asks_about_no_promise_refused all =
    differs_3_0 (ap (figure_of 1 0) (post_at 3 three [] wrong_rises.asks_about_no_promise all))

pub asks_twice_refused : AreDue three [] wrong_rises.asks_twice → ⊥
asks_twice_refused all = differs_3_0 (ap (figure_of 2 0) (post_at 10 three [] wrong_rises.asks_twice all))

pub asks_before_its_life_record_refused : AreDue three [] wrong_rises.asks_before_its_life_record → ⊥
asks_before_its_life_record_refused all =
    differs_3_2 (ap (figure_of 0 0) (post_at 10 three [] wrong_rises.asks_before_its_life_record all))

pub asks_another_client_refused : AreDue three [] wrong_rises.asks_another_client → ⊥
asks_another_client_refused all =
    differs_5_4 (ap (figure_of 1 1) (post_at 10 three [] wrong_rises.asks_another_client all))

pub writes_no_life_refused : AreDue three [] wrong_rises.writes_no_life → ⊥
writes_no_life_refused all = differs_3_2 (ap (figure_of 0 0) (post_at 10 three [] wrong_rises.writes_no_life all))

pub forgets_by_an_old_abort_refused : AreDue three [] wrong_rises.forgets_by_an_old_abort → ⊥
forgets_by_an_old_abort_refused all =
    differs_0_3 (ap (figure_of 1 0) (post_at 9 three [] wrong_rises.forgets_by_an_old_abort all))

pub pending_promise_not_seen_refused : AreDue three [] wrong_rises.pending_promise_not_seen → ⊥
pending_promise_not_seen_refused all =
    differs_0_3 (ap (figure_of 1 0) (post_at 7 three [] wrong_rises.pending_promise_not_seen all))

pub lost_promise_seen_refused : AreDue three [] wrong_rises.lost_promise_seen → ⊥
lost_promise_seen_refused all = differs_3_0 (ap (figure_of 1 0) (post_at 7 three [] wrong_rises.lost_promise_seen all))

pub pending_done_not_seen_refused : AreDue three [] wrong_rises.pending_done_not_seen → ⊥
pending_done_not_seen_refused all =
    differs_3_0 (ap (figure_of 1 0) (post_at 11 three [] wrong_rises.pending_done_not_seen all))

pub lost_done_seen_refused : AreDue three [] wrong_rises.lost_done_seen → ⊥
lost_done_seen_refused all = differs_0_3 (ap (figure_of 1 0) (post_at 11 three [] wrong_rises.lost_done_seen all))

pub asks_in_order_of_promises_refused : AreDue three [] wrong_rises.asks_in_order_of_promises → ⊥
asks_in_order_of_promises_refused all =
    differs_5_4 (ap (figure_of 1 1) (post_at 11 three [] wrong_rises.asks_in_order_of_promises all))

pub asks_about_one_of_two_refused : AreDue three [] wrong_rises.asks_about_one_of_two → ⊥
asks_about_one_of_two_refused all =
    differs_0_3 (ap (figure_of 2 0) (post_at 11 three [] wrong_rises.asks_about_one_of_two all))
