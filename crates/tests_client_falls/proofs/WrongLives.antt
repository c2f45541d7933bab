-- None of these is due: what a client goes on with after a fall, under which name it begins, and what it tells while it
-- is down.
use Rattle.std.proofs.Common.{◌≡◌, ℕ, Option, Some, None, ap}
use Rattle.qc_decl.specs.Vocabulary.{three}
use Rattle.qc_msg.specs.declared.step.Command.{Command}
use Rattle.qc_promise.specs.Vocabulary.{AreRepliesDue}
use Rattle.tests_due.proofs.Places.{due_at}
use Rattle.tests_client_falls.proofs.Figures.{figure, of_reply}
use Rattle.tests_client_falls.specs.WrongLives as wrong_lives

differs_1_2 : ◌≡◌ {A = ℕ} 1 2 → ⊥
differs_1_2 e = let never : ⊥ = cc in never

differs_1_6 : ◌≡◌ {A = ℕ} 1 6 → ⊥
differs_1_6 e = let never : ⊥ = cc in never

differs_1_11 : ◌≡◌ {A = ℕ} 1 11 → ⊥
differs_1_11 e = let never : ⊥ = cc in never

differs_2_3 : ◌≡◌ {A = ℕ} 2 3 → ⊥
differs_2_3 e = let never : ⊥ = cc in never

differs_2_4 : ◌≡◌ {A = ℕ} 2 4 → ⊥
differs_2_4 e = let never : ⊥ = cc in never

differs_2_5 : ◌≡◌ {A = ℕ} 2 5 → ⊥
differs_2_5 e = let never : ⊥ = cc in never

differs_2_10 : ◌≡◌ {A = ℕ} 2 10 → ⊥
differs_2_10 e = let never : ⊥ = cc in never

differs_3_2 : ◌≡◌ {A = ℕ} 3 2 → ⊥
differs_3_2 e = let never : ⊥ = cc in never

differs_3_4 : ◌≡◌ {A = ℕ} 3 4 → ⊥
differs_3_4 e = let never : ⊥ = cc in never

differs_4_3 : ◌≡◌ {A = ℕ} 4 3 → ⊥
differs_4_3 e = let never : ⊥ = cc in never

differs_5_1 : ◌≡◌ {A = ℕ} 5 1 → ⊥
differs_5_1 e = let never : ⊥ = cc in never

differs_5_10 : ◌≡◌ {A = ℕ} 5 10 → ⊥
differs_5_10 e = let never : ⊥ = cc in never

some_differs : {command : Command} → ◌≡◌ {A = Option Command} (Some command) None → ⊥
some_differs e = let never : ⊥ = cc in never

pub goes_on_with_its_transaction_after_a_fall_refused : AreRepliesDue three 0
    wrong_lives.goes_on_with_its_transaction_after_a_fall → ⊥
goes_on_with_its_transaction_after_a_fall_refused all =
    differs_5_1 (ap (λ r. figure 0 (of_reply r))
    (due_at 16 three 0 wrong_lives.goes_on_with_its_transaction_after_a_fall all).0)

pub is_told_response_of_a_do_that_it_called_before_its_fall_refused : AreRepliesDue three 0
    wrong_lives.is_told_response_of_a_do_that_it_called_before_its_fall → ⊥
is_told_response_of_a_do_that_it_called_before_its_fall_refused all =
    differs_1_6 (ap (λ r. figure 0 (of_reply r))
    (due_at 10 three 0 wrong_lives.is_told_response_of_a_do_that_it_called_before_its_fall all).0)

pub begins_a_name_of_life_1_after_its_rise_refused : AreRepliesDue three 0
    wrong_lives.begins_a_name_of_life_1_after_its_rise → ⊥
begins_a_name_of_life_1_after_its_rise_refused all =
    differs_3_2 (ap (λ r. figure 1 (of_reply r))
    (due_at 12 three 0 wrong_lives.begins_a_name_of_life_1_after_its_rise all).0)

pub begins_the_same_name_again_after_its_rise_refused : AreRepliesDue three 0
    wrong_lives.begins_the_same_name_again_after_its_rise → ⊥
begins_the_same_name_again_after_its_rise_refused all =
    differs_3_2 (ap (λ r. figure 1 (of_reply r))
    (due_at 12 three 0 wrong_lives.begins_the_same_name_again_after_its_rise all).0)

pub counts_on_from_the_number_before_its_rise_refused : AreRepliesDue three 0
    wrong_lives.counts_on_from_the_number_before_its_rise → ⊥
counts_on_from_the_number_before_its_rise_refused all =
    differs_2_3 (ap (λ r. figure 2 (of_reply r))
    (due_at 12 three 0 wrong_lives.counts_on_from_the_number_before_its_rise all).0)

pub begins_life_3_after_one_rise_refused : AreRepliesDue three 0 wrong_lives.begins_life_3_after_one_rise → ⊥
begins_life_3_after_one_rise_refused all =
    differs_3_4 (ap (λ r. figure 1 (of_reply r)) (due_at 12 three 0 wrong_lives.begins_life_3_after_one_rise all).0)

pub its_clock_begins_at_0_its_stamp_comes_twice_refused : AreRepliesDue three 0
    wrong_lives.its_clock_begins_at_0_its_stamp_comes_twice → ⊥
its_clock_begins_at_0_its_stamp_comes_twice_refused all =
    differs_3_2 (ap (λ r. figure 1 (of_reply r))
    (due_at 25 three 0 wrong_lives.its_clock_begins_at_0_its_stamp_comes_twice all).0)

pub its_clock_counts_on_what_grants_showed_before_its_fall_refused : AreRepliesDue three 0
    wrong_lives.its_clock_counts_on_what_grants_showed_before_its_fall → ⊥
its_clock_counts_on_what_grants_showed_before_its_fall_refused all =
    differs_2_3 (ap (λ r. figure 1 (of_reply r))
    (due_at 14 three 0 wrong_lives.its_clock_counts_on_what_grants_showed_before_its_fall all).0)

pub asks_in_epoch_2_after_its_rise_and_is_told_quorum_refused : AreRepliesDue three 0
    wrong_lives.asks_in_epoch_2_after_its_rise_and_is_told_quorum → ⊥
asks_in_epoch_2_after_its_rise_and_is_told_quorum_refused all =
    differs_1_11 (ap (λ r. figure 0 (of_reply r))
    (due_at 18 three 0 wrong_lives.asks_in_epoch_2_after_its_rise_and_is_told_quorum all).0)

pub counts_answers_to_what_it_asked_before_its_fall_refused : AreRepliesDue three 0
    wrong_lives.counts_answers_to_what_it_asked_before_its_fall → ⊥
counts_answers_to_what_it_asked_before_its_fall_refused all =
    differs_1_6 (ap (λ r. figure 0 (of_reply r))
    (due_at 15 three 0 wrong_lives.counts_answers_to_what_it_asked_before_its_fall all).0)

pub is_told_down_while_it_is_up_refused : AreRepliesDue three 0 wrong_lives.is_told_down_while_it_is_up → ⊥
is_told_down_while_it_is_up_refused all =
    differs_1_2 (ap (λ r. figure 0 (of_reply r)) (due_at 11 three 0 wrong_lives.is_told_down_while_it_is_up all).0)

pub is_told_notransaction_while_it_is_down_refused : AreRepliesDue three 0
    wrong_lives.is_told_notransaction_while_it_is_down → ⊥
is_told_notransaction_while_it_is_down_refused all =
    differs_2_5 (ap (λ r. figure 0 (of_reply r))
    (due_at 10 three 0 wrong_lives.is_told_notransaction_while_it_is_down all).0)

pub is_told_dropped_while_it_is_down_refused : AreRepliesDue three 0 wrong_lives.is_told_dropped_while_it_is_down → ⊥
is_told_dropped_while_it_is_down_refused all =
    differs_2_10
    (ap (λ r. figure 0 (of_reply r)) (due_at 10 three 0 wrong_lives.is_told_dropped_while_it_is_down all).0)

pub begins_while_it_is_down_refused : AreRepliesDue three 0 wrong_lives.begins_while_it_is_down → ⊥
begins_while_it_is_down_refused all =
    differs_2_4 (ap (λ r. figure 0 (of_reply r)) (due_at 10 three 0 wrong_lives.begins_while_it_is_down all).0)

pub a_begin_that_was_told_down_counts_refused : AreRepliesDue three 0 wrong_lives.a_begin_that_was_told_down_counts → ⊥
a_begin_that_was_told_down_counts_refused all =
    differs_2_3
    (ap (λ r. figure 2 (of_reply r)) (due_at 14 three 0 wrong_lives.a_begin_that_was_told_down_counts all).0)

pub is_told_already_of_its_former_life_refused : AreRepliesDue three 0 wrong_lives.is_told_already_of_its_former_life
    → ⊥
is_told_already_of_its_former_life_refused all =
    differs_4_3 (ap (λ r. figure 0 (of_reply r))
    (due_at 12 three 0 wrong_lives.is_told_already_of_its_former_life all).0)

pub is_told_dropped_of_its_former_life_refused : AreRepliesDue three 0 wrong_lives.is_told_dropped_of_its_former_life
    → ⊥
is_told_dropped_of_its_former_life_refused all =
    differs_5_10 (ap (λ r. figure 0 (of_reply r))
    (due_at 12 three 0 wrong_lives.is_told_dropped_of_its_former_life all).0)

pub is_called_while_a_command_runs_refused : AreRepliesDue three 0 wrong_lives.is_called_while_a_command_runs → ⊥
is_called_while_a_command_runs_refused all =
    some_differs (due_at 11 three 0 wrong_lives.is_called_while_a_command_runs all).1
