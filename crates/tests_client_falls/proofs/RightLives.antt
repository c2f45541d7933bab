-- All of these deeds are due, and right for the first transaction.
use Rattle.std.proofs.Common.{◌≡◌, ℕ, zero, suc, true, false, List, [], ◌∷◌, ◌++◌, drop, fold, take, inl, inr, refl}
use Rattle.qc_decl.specs.Vocabulary.{three}
use Rattle.qc_msg.specs.Vocabulary.{Deed}
use Rattle.qc_promise.specs.Vocabulary.{AreRepliesDue, AreRight, AreRightFrom, Status, Unborn, status, status_at}
use Rattle.qc_stamp.specs.declared.stamp.TxId.{TxId}
use Rattle.tests_due.proofs.Owed.{due_where_shown}
use Rattle.tests_client_falls.specs.RightLives as right_lives
use Rattle.tests_client_falls.specs.Words.{committing, tx}

-- the transaction of what the others begin with
abbrev first : TxId
first = tx 0 1 1

right_after : (s : Status) (n : ℕ) (xs ys : List Deed) → AreRightFrom first s xs
    → AreRightFrom first (fold (status_at first) s (take n xs)) ys → AreRightFrom first s (take n xs ++ ys)
right_after s zero xs ys right more = more
right_after s (suc n) [] ys right more = more
right_after s (suc n) (x ∷ xs) ys right more = (right.0, right_after (status_at first s x) n xs ys right.1 more)

-- what a deed asks of the transaction holds as far as that is then, or is of another one

so : {P A : Type 0} {a : A} → P → a ≡ a
so e = refl

other : {A : Type 0} → false ≡ true → A
other e = absurd (let never : ⊥ = cc in never)

-- what the others begin with is right, and so are deeds that go on from a part of it where those that are new are

committing_is_right : AreRight first committing
committing_is_right =
    (tt, (so, (tt, (so, (so, (tt, (tt, (tt, (tt, (so, (tt, (so, (so, (tt, (tt, (so, (so, (so, (tt, tt)))))))))))))))))))

after_first : (n : ℕ) (ys : List Deed) → AreRightFrom first (status (take n committing) first) ys
    → AreRight first (take n committing ++ ys)
after_first n ys more = right_after Unborn n committing ys committing_is_right more

-- each of them

pub begins_2_1_after_its_rise_due : AreRepliesDue three 0 right_lives.begins_2_1_after_its_rise
begins_2_1_after_its_rise_due = due_where_shown three 0 right_lives.begins_2_1_after_its_rise refl

pub begins_2_1_after_its_rise_right : AreRight (tx 0 1 1) right_lives.begins_2_1_after_its_rise
begins_2_1_after_its_rise_right =
    after_first 8 (drop 8 right_lives.begins_2_1_after_its_rise)
    (tt, (tt, (tt, (tt, (other, tt)))))

pub its_next_stamp_is_above_those_of_its_records_due :
    AreRepliesDue three 0 right_lives.its_next_stamp_is_above_those_of_its_records
its_next_stamp_is_above_those_of_its_records_due =
    due_where_shown three 0 right_lives.its_next_stamp_is_above_those_of_its_records refl

pub its_next_stamp_is_above_those_of_its_records_right :
    AreRight (tx 0 1 1) right_lives.its_next_stamp_is_above_those_of_its_records
its_next_stamp_is_above_those_of_its_records_right =
    after_first 19 (drop 19 right_lives.its_next_stamp_is_above_those_of_its_records)
    (tt, (((λ e. inr refl), tt), (tt, (tt, (other, (tt, (other, (tt, tt))))))))

pub counts_answers_to_what_it_asked_since_due : AreRepliesDue three 0 right_lives.counts_answers_to_what_it_asked_since
counts_answers_to_what_it_asked_since_due =
    due_where_shown three 0 right_lives.counts_answers_to_what_it_asked_since refl

pub counts_answers_to_what_it_asked_since_right : AreRight (tx 0 1 1) right_lives.counts_answers_to_what_it_asked_since
counts_answers_to_what_it_asked_since_right =
    after_first 2 (drop 2 right_lives.counts_answers_to_what_it_asked_since)
    (tt, (so, (so, (tt, (tt, (tt, (tt, (other, (tt, (other, (other, (tt, (tt, (tt, (tt, (tt, tt))))))))))))))))

pub answers_committed_of_a_record_that_rose_due :
    AreRepliesDue three 0 right_lives.answers_committed_of_a_record_that_rose
answers_committed_of_a_record_that_rose_due =
    due_where_shown three 0 right_lives.answers_committed_of_a_record_that_rose refl

pub answers_committed_of_a_record_that_rose_right :
    AreRight (tx 0 1 1) right_lives.answers_committed_of_a_record_that_rose
answers_committed_of_a_record_that_rose_right =
    after_first 8 (drop 8 right_lives.answers_committed_of_a_record_that_rose)
    (tt, (so, (so, (tt, (tt, (so, (so, (so, (tt, (tt, (((λ e. inr refl), tt), (tt, (tt, (so, tt))))))))))))))

pub answers_aborted_of_a_record_that_did_not_rise_due :
    AreRepliesDue three 0 right_lives.answers_aborted_of_a_record_that_did_not_rise
answers_aborted_of_a_record_that_did_not_rise_due =
    due_where_shown three 0 right_lives.answers_aborted_of_a_record_that_did_not_rise refl

pub answers_aborted_of_a_record_that_did_not_rise_right :
    AreRight (tx 0 1 1) right_lives.answers_aborted_of_a_record_that_did_not_rise
answers_aborted_of_a_record_that_did_not_rise_right =
    after_first 8 (drop 8 right_lives.answers_aborted_of_a_record_that_did_not_rise)
    (tt, (so, (so, (tt, (tt, (tt, (tt, (tt, (tt, (tt, ((λ e. inr refl), tt)))))))))))

pub answers_committed_of_the_pending_record_that_rose_due :
    AreRepliesDue three 0 right_lives.answers_committed_of_the_pending_record_that_rose
answers_committed_of_the_pending_record_that_rose_due =
    due_where_shown three 0 right_lives.answers_committed_of_the_pending_record_that_rose refl

pub answers_committed_of_the_pending_record_that_rose_right :
    AreRight (tx 0 1 1) right_lives.answers_committed_of_the_pending_record_that_rose
answers_committed_of_the_pending_record_that_rose_right =
    after_first 8 (drop 8 right_lives.answers_committed_of_the_pending_record_that_rose)
    (tt, (so, (so, (tt, (tt, (tt, (tt, (((λ e. inl refl), tt), (tt, (tt, (so, tt)))))))))))

pub is_told_down_while_it_is_down_due : AreRepliesDue three 0 right_lives.is_told_down_while_it_is_down
is_told_down_while_it_is_down_due = due_where_shown three 0 right_lives.is_told_down_while_it_is_down refl

pub is_told_down_while_it_is_down_right : AreRight (tx 0 1 1) right_lives.is_told_down_while_it_is_down
is_told_down_while_it_is_down_right =
    after_first 8 (drop 8 right_lives.is_told_down_while_it_is_down)
    (tt, (tt, (tt, tt)))

pub a_begin_that_was_told_down_does_not_count_due :
    AreRepliesDue three 0 right_lives.a_begin_that_was_told_down_does_not_count
a_begin_that_was_told_down_does_not_count_due =
    due_where_shown three 0 right_lives.a_begin_that_was_told_down_does_not_count refl

pub a_begin_that_was_told_down_does_not_count_right :
    AreRight (tx 0 1 1) right_lives.a_begin_that_was_told_down_does_not_count
a_begin_that_was_told_down_does_not_count_right =
    after_first 8 (drop 8 right_lives.a_begin_that_was_told_down_does_not_count)
    (tt, (tt, (tt, (tt, (tt, (tt, (other, tt)))))))

pub is_told_unknown_and_falls_as_it_writes_due :
    AreRepliesDue three 0 right_lives.is_told_unknown_and_falls_as_it_writes
is_told_unknown_and_falls_as_it_writes_due =
    due_where_shown three 0 right_lives.is_told_unknown_and_falls_as_it_writes refl

pub is_told_unknown_and_falls_as_it_writes_right :
    AreRight (tx 0 1 1) right_lives.is_told_unknown_and_falls_as_it_writes
is_told_unknown_and_falls_as_it_writes_right =
    after_first 15 (drop 15 right_lives.is_told_unknown_and_falls_as_it_writes)
    (tt, (tt, tt))

pub a_record_that_was_pending_rises_it_committed_due :
    AreRepliesDue three 0 right_lives.a_record_that_was_pending_rises_it_committed
a_record_that_was_pending_rises_it_committed_due =
    due_where_shown three 0 right_lives.a_record_that_was_pending_rises_it_committed refl

pub a_record_that_was_pending_rises_it_committed_right :
    AreRight (tx 0 1 1) right_lives.a_record_that_was_pending_rises_it_committed
a_record_that_was_pending_rises_it_committed_right =
    after_first 15 (drop 15 right_lives.a_record_that_was_pending_rises_it_committed)
    (tt, (tt, (((λ e. inl refl), tt), (tt, tt))))

pub it_rises_twice_it_committed_once_due : AreRepliesDue three 0 right_lives.it_rises_twice_it_committed_once
it_rises_twice_it_committed_once_due = due_where_shown three 0 right_lives.it_rises_twice_it_committed_once refl

pub it_rises_twice_it_committed_once_right : AreRight (tx 0 1 1) right_lives.it_rises_twice_it_committed_once
it_rises_twice_it_committed_once_right =
    after_first 15 (drop 15 right_lives.it_rises_twice_it_committed_once)
    (tt, (tt, (((λ e. inl refl), tt), (tt, (tt, (((λ e. inr refl), (tt, tt)), (tt, tt)))))))

pub it_does_not_rise_it_did_not_commit_due : AreRepliesDue three 0 right_lives.it_does_not_rise_it_did_not_commit
it_does_not_rise_it_did_not_commit_due = due_where_shown three 0 right_lives.it_does_not_rise_it_did_not_commit refl

pub it_does_not_rise_it_did_not_commit_right : AreRight (tx 0 1 1) right_lives.it_does_not_rise_it_did_not_commit
it_does_not_rise_it_did_not_commit_right =
    after_first 15 (drop 15 right_lives.it_does_not_rise_it_did_not_commit)
    (tt, (tt, (tt, (tt, tt))))

pub the_pending_record_stays_pending_while_the_journal_is_not_opened_due :
    AreRepliesDue three 0 right_lives.the_pending_record_stays_pending_while_the_journal_is_not_opened
the_pending_record_stays_pending_while_the_journal_is_not_opened_due =
    due_where_shown three 0 right_lives.the_pending_record_stays_pending_while_the_journal_is_not_opened refl

pub the_pending_record_stays_pending_while_the_journal_is_not_opened_right :
    AreRight (tx 0 1 1) right_lives.the_pending_record_stays_pending_while_the_journal_is_not_opened
the_pending_record_stays_pending_while_the_journal_is_not_opened_right =
    after_first 15 (drop 15 right_lives.the_pending_record_stays_pending_while_the_journal_is_not_opened)
    (tt, (tt, (tt, (((λ e. inl refl), tt), (tt, tt)))))

pub what_was_shown_in_a_former_life_is_not_seen_due :
    AreRepliesDue three 0 right_lives.what_was_shown_in_a_former_life_is_not_seen
what_was_shown_in_a_former_life_is_not_seen_due =
    due_where_shown three 0 right_lives.what_was_shown_in_a_former_life_is_not_seen refl

pub what_was_shown_in_a_former_life_is_not_seen_right :
    AreRight (tx 0 1 1) right_lives.what_was_shown_in_a_former_life_is_not_seen
what_was_shown_in_a_former_life_is_not_seen_right =
    after_first 2 (drop 2 right_lives.what_was_shown_in_a_former_life_is_not_seen)
    (tt, (so, (so, (tt, (tt, (tt, (tt, (tt, (tt, (tt, (other, (tt, (other, (tt, tt))))))))))))))

pub a_reader_sees_what_rose_due : AreRepliesDue three 0 right_lives.a_reader_sees_what_rose
a_reader_sees_what_rose_due = due_where_shown three 0 right_lives.a_reader_sees_what_rose refl

pub a_reader_sees_what_rose_right : AreRight (tx 0 1 1) right_lives.a_reader_sees_what_rose
a_reader_sees_what_rose_right =
    after_first 8 (drop 8 right_lives.a_reader_sees_what_rose)
    (tt, (so, (so, (tt, (tt, (tt, (tt, (((λ e. inl refl), tt), (tt, (tt, (so, tt)))))))))))
