-- None of these is right: what a client answers of a transaction of its former life.
use Rattle.std.proofs.Common.{◌≡◌, ◌⊎◌, inl, inr, refl}
use Rattle.qc_stamp.specs.declared.stamp.Stamp.{Stamp}
use Rattle.qc_promise.specs.Vocabulary.{AreRight, Begun, Committed, Dead, Unborn}
use Rattle.tests_client_falls.proofs.Verdicts.{right_at}
use Rattle.tests_client_falls.specs.Words.{tx}
use Rattle.tests_client_falls.specs.WrongVerdicts as wrong_verdicts

committed_stays : {stamp : Stamp} → (Committed stamp ≡ Begun) ⊎ (Committed stamp ≡ Dead) → ⊥
committed_stays (inl e) = let never : ⊥ = cc in never
committed_stays (inr e) = let never : ⊥ = cc in never

dead_stays : {stamp : Stamp} → Dead ≡ Committed stamp → ⊥
dead_stays e = let never : ⊥ = cc in never

dead_is_not_begun : Dead ≡ Begun → ⊥
dead_is_not_begun e = let never : ⊥ = cc in never

pub answers_aborted_of_a_record_that_rose_refused : AreRight (tx 0 1 1)
    wrong_verdicts.answers_aborted_of_a_record_that_rose → ⊥
answers_aborted_of_a_record_that_rose_refused all =
    committed_stays (right_at 21 (tx 0 1 1) Unborn wrong_verdicts.answers_aborted_of_a_record_that_rose all refl)

pub answers_committed_of_a_record_that_did_not_rise_refused : AreRight (tx 0 1 1)
    wrong_verdicts.answers_committed_of_a_record_that_did_not_rise → ⊥
answers_committed_of_a_record_that_did_not_rise_refused all =
    dead_stays (right_at 18 (tx 0 1 1) Unborn wrong_verdicts.answers_committed_of_a_record_that_did_not_rise all refl)

pub answers_aborted_of_the_pending_record_that_rose_refused : AreRight (tx 0 1 1)
    wrong_verdicts.answers_aborted_of_the_pending_record_that_rose → ⊥
answers_aborted_of_the_pending_record_that_rose_refused all =
    committed_stays (right_at 18 (tx 0 1 1) Unborn wrong_verdicts.answers_aborted_of_the_pending_record_that_rose all
    refl)

pub answers_active_of_what_it_had_begun_before_its_fall_refused : AreRight (tx 0 1 1)
    wrong_verdicts.answers_active_of_what_it_had_begun_before_its_fall → ⊥
answers_active_of_what_it_had_begun_before_its_fall_refused all =
    dead_is_not_begun (right_at 12 (tx 0 1 1) Unborn wrong_verdicts.answers_active_of_what_it_had_begun_before_its_fall
    all refl)
