-- None of these is due: Unknown and what is pending, records of a former life, and what a client does as it rises.
use Rattle.std.proofs.Common.{◌≡◌, ℕ, Option, Some, None, ap}
use Rattle.qc_decl.specs.Vocabulary.{three}
use Rattle.qc_entry.specs.declared.record.Commit.{Commit}
use Rattle.qc_promise.specs.Vocabulary.{AreRepliesDue}
use Rattle.tests_due.proofs.Places.{due_at}
use Rattle.tests_client_falls.proofs.Figures.{figure, figure_of, of_pending, of_reply}
use Rattle.tests_client_falls.specs.WrongRecords as wrong_records

differs_0_2 : ◌≡◌ {A = ℕ} 0 2 → ⊥
differs_0_2 e = let never : ⊥ = cc in never

differs_1_0 : ◌≡◌ {A = ℕ} 1 0 → ⊥
differs_1_0 e = let never : ⊥ = cc in never

differs_1_2 : ◌≡◌ {A = ℕ} 1 2 → ⊥
differs_1_2 e = let never : ⊥ = cc in never

differs_2_0 : ◌≡◌ {A = ℕ} 2 0 → ⊥
differs_2_0 e = let never : ⊥ = cc in never

differs_2_5 : ◌≡◌ {A = ℕ} 2 5 → ⊥
differs_2_5 e = let never : ⊥ = cc in never

differs_3_0 : ◌≡◌ {A = ℕ} 3 0 → ⊥
differs_3_0 e = let never : ⊥ = cc in never

differs_3_2 : ◌≡◌ {A = ℕ} 3 2 → ⊥
differs_3_2 e = let never : ⊥ = cc in never

differs_5_9 : ◌≡◌ {A = ℕ} 5 9 → ⊥
differs_5_9 e = let never : ⊥ = cc in never

differs_8_7 : ◌≡◌ {A = ℕ} 8 7 → ⊥
differs_8_7 e = let never : ⊥ = cc in never

differs_8_9 : ◌≡◌ {A = ℕ} 8 9 → ⊥
differs_8_9 e = let never : ⊥ = cc in never

differs_9_8 : ◌≡◌ {A = ℕ} 9 8 → ⊥
differs_9_8 e = let never : ⊥ = cc in never

abbrev number_of_commit : Option Commit → ℕ
number_of_commit None = 0
number_of_commit (Some c) = 1

pub is_told_unknown_with_the_record_written_refused : AreRepliesDue three 0
    wrong_records.is_told_unknown_with_the_record_written → ⊥
is_told_unknown_with_the_record_written_refused all =
    differs_1_0 (ap (λ c. number_of_commit c)
    (due_at 16 three 0 wrong_records.is_told_unknown_with_the_record_written all).1)

pub is_told_unknown_with_nothing_pending_refused : AreRepliesDue three 0
    wrong_records.is_told_unknown_with_nothing_pending → ⊥
is_told_unknown_with_nothing_pending_refused all =
    differs_9_8 (ap (λ r. figure 0 (of_reply r))
    (due_at 15 three 0 wrong_records.is_told_unknown_with_nothing_pending all).0)

pub is_told_unknown_with_another_stamp_pending_refused : AreRepliesDue three 0
    wrong_records.is_told_unknown_with_another_stamp_pending → ⊥
is_told_unknown_with_another_stamp_pending_refused all =
    differs_3_2 (ap (λ r. figure 1 (of_pending r))
    (due_at 15 three 0 wrong_records.is_told_unknown_with_another_stamp_pending all).2)

pub is_told_unknown_with_another_list_of_operations_pending_refused : AreRepliesDue three 0
    wrong_records.is_told_unknown_with_another_list_of_operations_pending → ⊥
is_told_unknown_with_another_list_of_operations_pending_refused all =
    differs_1_2 (ap (λ r. figure 4 (of_pending r))
    (due_at 15 three 0 wrong_records.is_told_unknown_with_another_list_of_operations_pending all).2)

pub is_told_unknown_with_a_life_record_pending_refused : AreRepliesDue three 0
    wrong_records.is_told_unknown_with_a_life_record_pending → ⊥
is_told_unknown_with_a_life_record_pending_refused all =
    differs_2_5 (ap (λ r. figure 0 (of_pending r))
    (due_at 15 three 0 wrong_records.is_told_unknown_with_a_life_record_pending all).2)

pub is_told_unknown_and_goes_on_refused : AreRepliesDue three 0 wrong_records.is_told_unknown_and_goes_on → ⊥
is_told_unknown_and_goes_on_refused all =
    differs_9_8 (ap (λ r. figure 0 (of_reply r)) (due_at 15 three 0 wrong_records.is_told_unknown_and_goes_on all).0)

pub is_told_unknown_and_falls_by_the_script_refused : AreRepliesDue three 0
    wrong_records.is_told_unknown_and_falls_by_the_script → ⊥
is_told_unknown_and_falls_by_the_script_refused all =
    differs_9_8 (ap (λ r. figure 0 (of_reply r))
    (due_at 15 three 0 wrong_records.is_told_unknown_and_falls_by_the_script all).0)

pub is_told_committed_and_falls_as_it_writes_refused : AreRepliesDue three 0
    wrong_records.is_told_committed_and_falls_as_it_writes → ⊥
is_told_committed_and_falls_as_it_writes_refused all =
    differs_8_9 (ap (λ r. figure 0 (of_reply r))
    (due_at 15 three 0 wrong_records.is_told_committed_and_falls_as_it_writes all).0)

pub is_told_aborted_and_falls_as_it_writes_refused : AreRepliesDue three 0
    wrong_records.is_told_aborted_and_falls_as_it_writes → ⊥
is_told_aborted_and_falls_as_it_writes_refused all =
    differs_8_7 (ap (λ r. figure 0 (of_reply r))
    (due_at 15 three 0 wrong_records.is_told_aborted_and_falls_as_it_writes all).0)

pub writes_its_record_and_falls_as_it_writes_another_of_the_transaction_refused : AreRepliesDue three 0
    wrong_records.writes_its_record_and_falls_as_it_writes_another_of_the_transaction → ⊥
writes_its_record_and_falls_as_it_writes_another_of_the_transaction_refused all =
    differs_8_9 (ap (λ r. figure 0 (of_reply r))
    (due_at 18 three 0 wrong_records.writes_its_record_and_falls_as_it_writes_another_of_the_transaction all).0)

pub writes_a_record_of_a_transaction_whose_pending_one_rose_refused : AreRepliesDue three 0
    wrong_records.writes_a_record_of_a_transaction_whose_pending_one_rose → ⊥
writes_a_record_of_a_transaction_whose_pending_one_rose_refused all =
    differs_5_9 (ap (λ r. figure 0 (of_reply r))
    (due_at 20 three 0 wrong_records.writes_a_record_of_a_transaction_whose_pending_one_rose all).0)

pub writes_a_record_of_a_transaction_of_its_former_life_refused : AreRepliesDue three 0
    wrong_records.writes_a_record_of_a_transaction_of_its_former_life → ⊥
writes_a_record_of_a_transaction_of_its_former_life_refused all =
    differs_5_9 (ap (λ r. figure 0 (of_reply r))
    (due_at 20 three 0 wrong_records.writes_a_record_of_a_transaction_of_its_former_life all).0)

pub sends_as_it_rises_refused : AreRepliesDue three 0 wrong_records.sends_as_it_rises → ⊥
sends_as_it_rises_refused all = differs_3_0 (ap (figure_of 1 0) (due_at 9 three 0 wrong_records.sends_as_it_rises all))

pub rises_and_writes_no_life_refused : AreRepliesDue three 0 wrong_records.rises_and_writes_no_life → ⊥
rises_and_writes_no_life_refused all =
    differs_0_2 (ap (figure_of 0 0) (due_at 9 three 0 wrong_records.rises_and_writes_no_life all))

pub writes_life_twice_refused : AreRepliesDue three 0 wrong_records.writes_life_twice → ⊥
writes_life_twice_refused all = differs_2_0 (ap (figure_of 1 0) (due_at 9 three 0 wrong_records.writes_life_twice all))

pub writes_a_promise_refused : AreRepliesDue three 0 wrong_records.writes_a_promise → ⊥
writes_a_promise_refused all = due_at 11 three 0 wrong_records.writes_a_promise all
