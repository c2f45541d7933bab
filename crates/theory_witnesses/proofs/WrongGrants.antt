-- Grants that sites give, and clients count, wrongly. Each run is one without the guard that its law names.
use Rattle.std.proofs.Common.{refl, [], ◌∷◌, ◌++◌}
use Rattle.qc_decl.proofs.BuiltInRules.{one_accepted}
use Rattle.qc_decl.specs.Vocabulary.{one}
use Rattle.theory_machine.specs.Vocabulary.{Count, CountsInItsEpoch, CountsWhatWasGranted, CountsWhileActive, Grant}
use Rattle.theory_machine.specs.Vocabulary.{GrantPassesDone, GrantPassesInstalls, GrantPassesLines, GrantTellsDeeds}
use Rattle.theory_machine.specs.Vocabulary.{GrantTellsEpoch, GrantTellsLife, GrantsUnlessClosed, GrantsWhatWasRequested}
use Rattle.theory_machine.specs.Vocabulary.{GrantsWithoutConflict, Own, SharesLogsOfSites}
use Rattle.theory_witnesses.proofs.Accepted.{moving_register_accepted}
use Rattle.theory_witnesses.proofs.Broken.{not_one_copy, wrong_log, wrong_order}
use Rattle.theory_witnesses.proofs.Needs.{shows_need}
use Rattle.theory_witnesses.specs.Vocabulary.{IsNeeded, LastRecordFollowsSeen, LogsHoldOperations, RecordsAreOneCopy}
use Rattle.theory_witnesses.specs.Vocabulary.{aborts, append_grant, begins, chooses, commits_at, counts, ends_at}
use Rattle.theory_witnesses.specs.Vocabulary.{executes, first, first_line, grant_of, grants_append, grants_read}
use Rattle.theory_witnesses.specs.Vocabulary.{invented_line, locks}
use Rattle.theory_witnesses.specs.Vocabulary.{moves_to, moving_register, operates, read_grant, reads_only, reads_zero}
use Rattle.theory_witnesses.specs.Vocabulary.{rises, second, sends, third, writes, writes_one, writes_zero}

-- A site grants a read lock as if it had done nothing.
pub grants_that_show_an_older_log : IsNeeded GrantTellsDeeds RecordsAreOneCopy
grants_that_show_an_older_log =
    shows_need GrantTellsDeeds RecordsAreOneCopy one one_accepted not_one_copy
    (writes first 1 (0 ∷ []) ++ begins second 1 ∷ (λ now. Grant (record (read_grant second 0 0 0 now) { before = [] }))
    ∷ counts second 0
    ∷ chooses second 0 reads_zero ∷ executes second ∷ commits_at second (0 ∷ []))
    refl refl

-- A site names the life that it will rise in: it loses the lock in its fall, and votes all the same.
pub grants_that_name_a_later_life : IsNeeded GrantTellsLife RecordsAreOneCopy
grants_that_name_a_later_life =
    shows_need GrantTellsLife RecordsAreOneCopy one one_accepted not_one_copy
    (begins second 1 ∷ (λ now. Grant (record (read_grant second 0 0 0 now) { life = 2 })) ∷ counts second 0 ∷ rises 0
    ∷ writes first 1 (0 ∷ [])
    ++ chooses second 0 reads_zero ∷ executes second ∷ commits_at second (0 ∷ []))
    refl refl

-- A site that has installed nothing grants for the second epoch.
pub grants_that_name_a_later_epoch : IsNeeded GrantTellsEpoch RecordsAreOneCopy
grants_that_name_a_later_epoch =
    shows_need GrantTellsEpoch RecordsAreOneCopy moving_register moving_register_accepted not_one_copy
    (writes first 1 (0 ∷ []) ++ begins second 2 ∷ (λ now. Grant (record (read_grant second 1 0 0 now) { epoch = 2 }))
    ∷ counts second 1
    ∷ chooses second 0 reads_zero ∷ executes second ∷ commits_at second (1 ∷ []))
    refl refl

-- A site that has closed and told what it has goes on granting: the write isn't in the new epoch's log.
pub grants_of_closed_sites : IsNeeded GrantsUnlessClosed RecordsAreOneCopy
grants_of_closed_sites =
    shows_need GrantsUnlessClosed RecordsAreOneCopy moving_register moving_register_accepted not_one_copy
    (moves_to 2 0 1 ++ writes first 1 (0 ∷ []) ++ reads_only second 2 reads_zero (1 ∷ []))
    refl refl

-- A read of the first epoch is stamped; in the second a write gets a lower stamp.
pub grant_clocks_below_an_install : IsNeeded GrantPassesInstalls RecordsAreOneCopy
grant_clocks_below_an_install =
    shows_need GrantPassesInstalls RecordsAreOneCopy moving_register moving_register_accepted not_one_copy
    (reads_only second 1 reads_zero (0 ∷ []) ++ ends_at second (0 ∷ []) ++ moves_to 2 0 1 ++ begins first 2
    ∷ chooses first 0 writes_one ∷ sends first
    ∷ (λ now. Grant (record (append_grant first 1 now) { clock = 0 })) ∷ counts first 1 ∷ executes first
    ∷ commits_at first (1 ∷ []))
    refl refl

-- A write is granted while another holds a read lock: it commits first, and the read tells 0 after it.
pub writes_past_a_read_lock : IsNeeded GrantsWithoutConflict RecordsAreOneCopy
writes_past_a_read_lock =
    shows_need GrantsWithoutConflict RecordsAreOneCopy one one_accepted not_one_copy
    (begins second 1 ∷ locks second (0 ∷ []) 0 0 ++ writes first 1 (0 ∷ []) ++ chooses second 0 reads_zero
    ∷ executes second ∷ commits_at second (0 ∷ []))
    refl refl

-- A read is granted while another holds the line of a write, and tells 0 with a stamp above the write's.
pub reads_past_a_write : IsNeeded GrantsWithoutConflict RecordsAreOneCopy
reads_past_a_write =
    shows_need GrantsWithoutConflict RecordsAreOneCopy one one_accepted not_one_copy
    (begins first 1 ∷ operates first 0 writes_one [] (0 ∷ []) ++ reads_only second 1 reads_zero (0 ∷ [])
    ++ commits_at first (0 ∷ []))
    refl refl

-- A read is stamped and done; a later write at the site gets a lower stamp.
pub grant_clocks_below_a_done_record : IsNeeded GrantPassesDone RecordsAreOneCopy
grant_clocks_below_a_done_record =
    shows_need GrantPassesDone RecordsAreOneCopy one one_accepted not_one_copy
    (reads_only second 1 reads_zero (0 ∷ []) ++ ends_at second (0 ∷ []) ++ begins first 1 ∷ chooses first 0 writes_one
    ∷ sends first
    ∷ (λ now. Grant (record (append_grant first 0 now) { clock = 0 })) ∷ counts first 0 ∷ executes first
    ∷ commits_at first (0 ∷ []))
    refl refl

-- A line comes to a site in the view of an Append that is given up; who is shown it there is stamped no later than
-- it.
pub grant_clocks_below_a_line : IsNeeded GrantPassesLines LastRecordFollowsSeen
grant_clocks_below_a_line =
    shows_need GrantPassesLines LastRecordFollowsSeen moving_register moving_register_accepted wrong_order
    (writes first 1 (0 ∷ []) ++ begins second 1 ∷ locks second (0 ∷ []) 0 0 ++ chooses second 0 writes_zero
    ∷ sends second ∷ grants_append second 1
    ∷ aborts second ∷ ends_at second (1 ∷ []) ++ begins third 1 ∷
    (λ now. Grant (record (read_grant third 1 0 0 now) { clock = 0 }))
    ∷ counts third 1 ∷ commits_at third (1 ∷ []))
    refl refl

-- A site grants a line that was never sent, and it is committed with the transaction.
pub grants_that_nobody_asked_for : IsNeeded GrantsWhatWasRequested LogsHoldOperations
grants_that_nobody_asked_for =
    shows_need GrantsWhatWasRequested LogsHoldOperations one one_accepted (wrong_log 0)
    (begins first 1 ∷ (λ now. Grant (grant_of first 0 (Own first_line ∷ []) [] now)) ∷ commits_at first (0 ∷ [])
    ++ ends_at first (0 ∷ []))
    refl refl

-- A site takes a line for shared that no site has.
pub shares_of_lines_made_up : IsNeeded SharesLogsOfSites LogsHoldOperations
shares_of_lines_made_up =
    shows_need SharesLogsOfSites LogsHoldOperations one one_accepted (wrong_log 0)
    ((λ now. Grant (grant_of first 0 [] (invented_line ∷ []) now)) ∷ [])
    refl refl

-- A client counts a grant that the site never gave.
pub grants_made_up : IsNeeded CountsWhatWasGranted RecordsAreOneCopy
grants_made_up =
    shows_need CountsWhatWasGranted RecordsAreOneCopy one one_accepted not_one_copy
    (writes first 1 (0 ∷ []) ++ begins second 1 ∷ (λ now. Count (record (read_grant second 0 0 0 now) { before = [] }))
    ∷ chooses second 0 reads_zero ∷ executes second ∷ commits_at second (0 ∷ []))
    refl refl

-- A grant of the first epoch is counted for a transaction that then begins in the second.
pub grants_counted_before_the_begin : IsNeeded CountsWhileActive RecordsAreOneCopy
grants_counted_before_the_begin =
    shows_need CountsWhileActive RecordsAreOneCopy moving_register moving_register_accepted not_one_copy
    (writes first 1 (0 ∷ []) ++ grants_read second 1 0 0 ∷ counts second 1 ∷ begins second 2
    ∷ chooses second 0 reads_zero ∷ executes second
    ∷ commits_at second (1 ∷ []))
    refl refl

-- A transaction of the second epoch counts a grant of a site in the first.
pub grants_of_another_epoch : IsNeeded CountsInItsEpoch RecordsAreOneCopy
grants_of_another_epoch =
    shows_need CountsInItsEpoch RecordsAreOneCopy moving_register moving_register_accepted not_one_copy
    (writes first 1 (0 ∷ []) ++ reads_only second 2 reads_zero (1 ∷ []))
    refl refl
