-- None of these is due: commits without their record.
use Rattle.std.proofs.Common.{◌≡◌, ℕ, [], ◌∷◌, Option, Some, None, ap}
use Rattle.qc_decl.specs.Vocabulary.{three}
use Rattle.qc_entry.specs.declared.record.Commit.{Commit}
use Rattle.qc_msg.specs.declared.reply.Reply.{Reply}
use Rattle.qc_msg.specs.Vocabulary.{deeds}
use Rattle.qc_promise.specs.Vocabulary.{AreRepliesDue}
use Rattle.tests_histories.specs.Words.{operation, stamp, tx}
use Rattle.tests_due.proofs.Places.{clock_told, count_written, due_at}
use Rattle.qc_msg.specs.declared.reply.AbortCause.TheVariants as causes
use Rattle.qc_msg.specs.declared.reply.Reply.TheVariants as replies
use Rattle.tests_due.specs.WrongRecords as wrong_records

record_before_the_votes_differs : ◌≡◌ {A = Option Reply} None (Some (replies.Committed (stamp 1 0))) → ⊥
record_before_the_votes_differs e = let never : ⊥ = cc in never

pub record_before_the_votes_refused : AreRepliesDue three 0 (deeds 3 [] wrong_records.record_before_the_votes) → ⊥
record_before_the_votes_refused all =
    record_before_the_votes_differs (due_at 9 three 0 (deeds 3 [] wrong_records.record_before_the_votes) all).0

record_missing_differs : ◌≡◌ {A = Option Commit} None
    (Some (record { stamp = stamp 1 0; tx = tx 0 1; ops = operation 0 2 (Some 2) ∷ [] })) → ⊥
record_missing_differs e = let never : ⊥ = cc in never

pub record_missing_refused : AreRepliesDue three 0 (deeds 3 [] wrong_records.record_missing) → ⊥
record_missing_refused all = record_missing_differs (due_at 15 three 0 (deeds 3 [] wrong_records.record_missing) all).1

operation_left_out_differs : ◌≡◌ {A = Option Commit}
    (Some (record { stamp = stamp 1 0; tx = tx 0 1; ops = operation 0 2 (Some 2) ∷ [] }))
    (Some (record { stamp = (stamp 1 0); tx = (tx 0 1); ops = [] })) → ⊥
operation_left_out_differs e =
    let same : ◌≡◌ {A = ℕ}
    (count_written (Some (record { stamp = stamp 1 0; tx = tx 0 1; ops = operation 0 2 (Some 2) ∷ [] })))
    (count_written (Some (record { stamp = (stamp 1 0); tx = (tx 0 1); ops = [] }))) = ap count_written e in
    let never : ⊥ = cc in never

pub operation_left_out_refused : AreRepliesDue three 0 (deeds 3 [] wrong_records.operation_left_out) → ⊥
operation_left_out_refused all =
    operation_left_out_differs (due_at 13 three 0 (deeds 3 [] wrong_records.operation_left_out) all).1

recorded_twice_differs : ◌≡◌ {A = Option Commit}
    (Some (record { stamp = (stamp 1 0); tx = (tx 0 1); ops = (operation 0 2 (Some 2) ∷ []) })) None → ⊥
recorded_twice_differs e = let never : ⊥ = cc in never

pub recorded_twice_refused : AreRepliesDue three 0 (deeds 3 [] wrong_records.recorded_twice) → ⊥
recorded_twice_refused all = recorded_twice_differs (due_at 14 three 0 (deeds 3 [] wrong_records.recorded_twice) all).2

low_stamp_differs : ◌≡◌ {A = Option Reply} (Some (replies.Committed (stamp 2 1))) (Some (replies.Committed (stamp 1 1)))
    → ⊥
low_stamp_differs e =
    let same : ◌≡◌ {A = ℕ} (clock_told (Some (replies.Committed (stamp 2 1))))
    (clock_told (Some (replies.Committed (stamp 1 1)))) = ap clock_told e in
    let never : ⊥ = cc in never

pub low_stamp_refused : AreRepliesDue three 1 (deeds 4 [] wrong_records.low_stamp) → ⊥
low_stamp_refused all = low_stamp_differs (due_at 19 three 1 (deeds 4 [] wrong_records.low_stamp) all).0

aborted_though_recorded_differs : ◌≡◌ {A = Option Reply} (Some (replies.Committed (stamp 1 0)))
    (Some (replies.Aborted (causes.NoAnswer 0))) → ⊥
aborted_though_recorded_differs e = let never : ⊥ = cc in never

pub aborted_though_recorded_refused : AreRepliesDue three 0 (deeds 3 [] wrong_records.aborted_though_recorded) → ⊥
aborted_though_recorded_refused all =
    aborted_though_recorded_differs (due_at 16 three 0 (deeds 3 [] wrong_records.aborted_though_recorded) all).0

unknown_without_a_fall_differs : ◌≡◌ {A = Option Reply} (Some (replies.Committed (stamp 1 0))) (Some replies.Unknown)
    → ⊥
unknown_without_a_fall_differs e = let never : ⊥ = cc in never

pub unknown_without_a_fall_refused : AreRepliesDue three 0 (deeds 3 [] wrong_records.unknown_without_a_fall) → ⊥
unknown_without_a_fall_refused all =
    unknown_without_a_fall_differs (due_at 13 three 0 (deeds 3 [] wrong_records.unknown_without_a_fall) all).0

committed_though_it_fell_differs : ◌≡◌ {A = Option Reply} (Some replies.Unknown) (Some (replies.Committed (stamp 1 0)))
    → ⊥
committed_though_it_fell_differs e = let never : ⊥ = cc in never

pub committed_though_it_fell_refused : AreRepliesDue three 0 (deeds 3 [] wrong_records.committed_though_it_fell) → ⊥
committed_though_it_fell_refused all =
    committed_though_it_fell_differs (due_at 13 three 0 (deeds 3 [] wrong_records.committed_though_it_fell) all).0
