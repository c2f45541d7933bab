-- Each guard is needed, and a machine without a guard asks all others.
use Rattle.std.proofs.Common.{◌≡◌, ◌↔◌, ℕ, ◌==◌, Bool, true, false, not, Some, refl, sym, ap, ◌∙◌, slice_get, eqb-true}
use Rattle.std.proofs.Common.{eq-eqb, true≢false}
use Rattle.theory_machine.specs.Vocabulary.{AbortsBeforeRecord, AbsentHasNoResponse, AllHaveVoted, AnswersFromView}
use Rattle.theory_machine.specs.Vocabulary.{AppendCarriesEarlierLines, AppendCarriesOnlyOwnLines, AppendCarriesView}
use Rattle.theory_machine.specs.Vocabulary.{AppendQuorumIsMet, AppendsWhatIsChosen, BeginsInPlannedEpoch, BeginsOnce}
use Rattle.theory_machine.specs.Vocabulary.{ChoosesOneAtATime, ChosenHasResponse, ClosedSitesAnswered, ClosesEnough}
use Rattle.theory_machine.specs.Vocabulary.{CommitsWhenVoting, CountsInItsEpoch, CountsWhatWasGranted}
use Rattle.theory_machine.specs.Vocabulary.{CountsWhileActive, DecidePassesCommitted, DecidePassesSnapshots}
use Rattle.theory_machine.specs.Vocabulary.{DecidesByPlan, DecidesFromSnapshots, DecidesNextEpoch, GrantPassesDone}
use Rattle.theory_machine.specs.Vocabulary.{GrantPassesInstalls, GrantPassesLines, GrantTellsDeeds, GrantTellsEpoch}
use Rattle.theory_machine.specs.Vocabulary.{GrantTellsLife, GrantsUnlessClosed, GrantsWhatWasRequested}
use Rattle.theory_machine.specs.Vocabulary.{SharesLogsOfSites}
use Rattle.theory_machine.specs.Vocabulary.{GrantsWithoutConflict, Guard, InstallsLaterEpoch, InstallsWhatWasDecided}
use Rattle.theory_machine.specs.Vocabulary.{InvocationIsDeclared, LearnsWhatWasAnnounced, MergesEveryEntry, MergesLogs}
use Rattle.theory_machine.specs.Vocabulary.{MergesOnlyCommitted, OperatesWhileActive, OperationsAreNumbered}
use Rattle.theory_machine.specs.Vocabulary.{OwnLinesAreKept, PreparesOnce, PreparesWhenExecuted, ReadQuorumIsMet}
use Rattle.theory_machine.specs.Vocabulary.{RecordHasOperations, RecordsPrepareWhenAsked, ResolvesPrepared}
use Rattle.theory_machine.specs.Vocabulary.{RisesPastRecords, RisesWithNoneRunning, SnapshotIsOfClosed}
use Rattle.theory_machine.specs.Vocabulary.{SnapshotPassesDone, SnapshotPassesInstalls, SnapshotTellsDeeds}
use Rattle.theory_machine.specs.Vocabulary.{StampIsItsClients, StampPassesClock, ViewIsWhole, ViewWasShown}
use Rattle.theory_machine.specs.Vocabulary.{VotesInGrantedLife, VotesWhenAsked}
use Rattle.theory_witnesses.proofs.Cases.{one_some}
use Rattle.theory_witnesses.proofs.WrongOperations.{invocations_that_a_type_lacks, absent_operations_appended}
use Rattle.theory_witnesses.proofs.WrongOperations.{epochs_without_a_plan, lines_left_out_of_views}
use Rattle.theory_witnesses.proofs.WrongOperations.{operations_after_prepare, operations_with_other_numbers}
use Rattle.theory_witnesses.proofs.WrongOperations.{own_writes_forgotten, reads_without_locks}
use Rattle.theory_witnesses.proofs.WrongOperations.{replies_that_no_view_allows, transactions_that_begin_twice}
use Rattle.theory_witnesses.proofs.WrongOperations.{two_operations_at_once, views_made_up, writes_without_an_append}
use Rattle.theory_witnesses.proofs.WrongAppends.{appends_of_nothing_chosen, appends_of_other_lines}
use Rattle.theory_witnesses.proofs.WrongAppends.{earlier_lines_not_sent_along, quorums_that_do_not_meet}
use Rattle.theory_witnesses.proofs.WrongAppends.{views_not_sent_along}
use Rattle.theory_witnesses.proofs.WrongGrants.{grant_clocks_below_a_done_record, grant_clocks_below_a_line}
use Rattle.theory_witnesses.proofs.WrongGrants.{grant_clocks_below_an_install, grants_counted_before_the_begin}
use Rattle.theory_witnesses.proofs.WrongGrants.{grants_made_up, grants_of_another_epoch, grants_of_closed_sites}
use Rattle.theory_witnesses.proofs.WrongGrants.{grants_that_name_a_later_epoch, grants_that_name_a_later_life}
use Rattle.theory_witnesses.proofs.WrongGrants.{grants_that_nobody_asked_for, grants_that_show_an_older_log}
use Rattle.theory_witnesses.proofs.WrongGrants.{shares_of_lines_made_up, writes_past_a_read_lock}
use Rattle.theory_witnesses.proofs.WrongCommits.{aborts_after_the_record, clients_that_forget_their_stamps}
use Rattle.theory_witnesses.proofs.WrongCommits.{commits_twice, commits_without_votes, prepare_after_an_abort}
use Rattle.theory_witnesses.proofs.WrongCommits.{prepare_during_an_append, prepare_records_before_prepare}
use Rattle.theory_witnesses.proofs.WrongCommits.{records_of_other_operations, stamps_of_another_client}
use Rattle.theory_witnesses.proofs.WrongCommits.{stamps_that_ignore_the_clocks, transactions_that_outlive_a_fall}
use Rattle.theory_witnesses.proofs.WrongCommits.{verdicts_made_up, votes_before_prepare, votes_of_another_life}
use Rattle.theory_witnesses.proofs.WrongSnapshots.{snapshot_clocks_below_a_done_record}
use Rattle.theory_witnesses.proofs.WrongSnapshots.{snapshot_clocks_below_an_install, snapshots_of_an_older_log}
use Rattle.theory_witnesses.proofs.WrongSnapshots.{snapshots_of_open_sites}
use Rattle.theory_witnesses.proofs.WrongDecisions.{closes_by_another_plan, closes_of_silent_sites, closes_too_few_sites}
use Rattle.theory_witnesses.proofs.WrongDecisions.{decide_clocks_below_a_committed_stamp}
use Rattle.theory_witnesses.proofs.WrongDecisions.{decide_clocks_below_a_snapshot, decides_without_the_prepared}
use Rattle.theory_witnesses.proofs.WrongDecisions.{installs_made_up, installs_of_the_same_epoch, logs_not_merged}
use Rattle.theory_witnesses.proofs.WrongDecisions.{merges_of_lines_made_up, merges_of_one_entry_for_several}
use Rattle.theory_witnesses.proofs.WrongDecisions.{snapshots_made_up, snapshots_of_an_older_epoch}
use Rattle.theory_witnesses.specs.Vocabulary.{Guarantee, IsNeeded, LastRecordFollowsSeen, LogsHoldOperations}
use Rattle.theory_witnesses.specs.Vocabulary.{OperationsAreOrdered, RecordsAreApart, RecordsAreOneCopy, VerdictsAgree}
use Rattle.theory_witnesses.specs.Vocabulary.{every_guard_but, guards, place_of}

stands : (guard : Guard) → slice_get guards (place_of guard) ≡ Some guard
stands BeginsOnce = refl
stands BeginsInPlannedEpoch = refl
stands OperatesWhileActive = refl
stands ChoosesOneAtATime = refl
stands AnswersFromView = refl
stands InvocationIsDeclared = refl
stands OperationsAreNumbered = refl
stands OwnLinesAreKept = refl
stands ViewWasShown = refl
stands ViewIsWhole = refl
stands ReadQuorumIsMet = refl
stands ChosenHasResponse = refl
stands AbsentHasNoResponse = refl
stands AppendsWhatIsChosen = refl
stands AppendCarriesView = refl
stands AppendCarriesOnlyOwnLines = refl
stands AppendCarriesEarlierLines = refl
stands AppendQuorumIsMet = refl
stands GrantTellsDeeds = refl
stands GrantTellsLife = refl
stands GrantTellsEpoch = refl
stands GrantsUnlessClosed = refl
stands GrantPassesInstalls = refl
stands GrantsWithoutConflict = refl
stands GrantPassesDone = refl
stands GrantPassesLines = refl
stands GrantsWhatWasRequested = refl
stands SharesLogsOfSites = refl
stands CountsWhatWasGranted = refl
stands CountsWhileActive = refl
stands CountsInItsEpoch = refl
stands PreparesOnce = refl
stands PreparesWhenExecuted = refl
stands VotesWhenAsked = refl
stands VotesInGrantedLife = refl
stands RecordsPrepareWhenAsked = refl
stands CommitsWhenVoting = refl
stands AllHaveVoted = refl
stands StampIsItsClients = refl
stands StampPassesClock = refl
stands RecordHasOperations = refl
stands AbortsBeforeRecord = refl
stands RisesWithNoneRunning = refl
stands RisesPastRecords = refl
stands LearnsWhatWasAnnounced = refl
stands SnapshotTellsDeeds = refl
stands SnapshotIsOfClosed = refl
stands SnapshotPassesDone = refl
stands SnapshotPassesInstalls = refl
stands DecidesByPlan = refl
stands DecidesFromSnapshots = refl
stands DecidesNextEpoch = refl
stands ClosesEnough = refl
stands ClosedSitesAnswered = refl
stands ResolvesPrepared = refl
stands MergesEveryEntry = refl
stands DecidePassesCommitted = refl
stands MergesLogs = refl
stands MergesOnlyCommitted = refl
stands DecidePassesSnapshots = refl
stands InstallsWhatWasDecided = refl
stands InstallsLaterEpoch = refl

same_place : (one guard : Guard) → place_of guard ≡ place_of one → guard ≡ one
same_place one guard e =
    let found : Some guard ≡ Some one = sym (stands guard) ∙ ap (λ (n : ℕ). slice_get guards n) e
    ∙ stands one in one_some found

pub one_guard_is_left_out : (one guard : Guard) → (every_guard_but one guard ≡ false) ↔ (guard ≡ one)
one_guard_is_left_out one guard = (
  by (place_of guard == place_of one) refl,
  λ e. ap not (eq-eqb (place_of guard) (place_of one) (ap place_of e)),
)
  where
    by : (t : Bool) → (place_of guard == place_of one) ≡ t → not (place_of guard == place_of one) ≡ false → guard ≡ one
    by true e f = same_place one guard (eqb-true (place_of guard) (place_of one) e)
    by false e f = absurd (true≢false (sym (ap not e) ∙ f))

pub every_guard_is_needed : (guard : Guard) → (guarantee : Guarantee) × IsNeeded guard guarantee
every_guard_is_needed BeginsOnce = (RecordsAreApart, transactions_that_begin_twice)
every_guard_is_needed BeginsInPlannedEpoch = (RecordsAreOneCopy, epochs_without_a_plan)
every_guard_is_needed OperatesWhileActive = (LogsHoldOperations, operations_after_prepare)
every_guard_is_needed ChoosesOneAtATime = (LogsHoldOperations, two_operations_at_once)
every_guard_is_needed AnswersFromView = (RecordsAreOneCopy, replies_that_no_view_allows)
every_guard_is_needed InvocationIsDeclared = (OperationsAreOrdered, invocations_that_a_type_lacks)
every_guard_is_needed OperationsAreNumbered = (LogsHoldOperations, operations_with_other_numbers)
every_guard_is_needed OwnLinesAreKept = (RecordsAreOneCopy, own_writes_forgotten)
every_guard_is_needed ViewWasShown = (RecordsAreOneCopy, views_made_up)
every_guard_is_needed ViewIsWhole = (RecordsAreOneCopy, lines_left_out_of_views)
every_guard_is_needed ReadQuorumIsMet = (RecordsAreOneCopy, reads_without_locks)
every_guard_is_needed ChosenHasResponse = (LogsHoldOperations, absent_operations_appended)
every_guard_is_needed AbsentHasNoResponse = (RecordsAreOneCopy, writes_without_an_append)
every_guard_is_needed AppendsWhatIsChosen = (LogsHoldOperations, appends_of_nothing_chosen)
every_guard_is_needed AppendCarriesView = (RecordsAreOneCopy, views_not_sent_along)
every_guard_is_needed AppendCarriesOnlyOwnLines = (LogsHoldOperations, appends_of_other_lines)
every_guard_is_needed AppendCarriesEarlierLines = (RecordsAreOneCopy, earlier_lines_not_sent_along)
every_guard_is_needed AppendQuorumIsMet = (RecordsAreOneCopy, quorums_that_do_not_meet)
every_guard_is_needed GrantTellsDeeds = (RecordsAreOneCopy, grants_that_show_an_older_log)
every_guard_is_needed GrantTellsLife = (RecordsAreOneCopy, grants_that_name_a_later_life)
every_guard_is_needed GrantTellsEpoch = (RecordsAreOneCopy, grants_that_name_a_later_epoch)
every_guard_is_needed GrantsUnlessClosed = (RecordsAreOneCopy, grants_of_closed_sites)
every_guard_is_needed GrantPassesInstalls = (RecordsAreOneCopy, grant_clocks_below_an_install)
every_guard_is_needed GrantsWithoutConflict = (RecordsAreOneCopy, writes_past_a_read_lock)
every_guard_is_needed GrantPassesDone = (RecordsAreOneCopy, grant_clocks_below_a_done_record)
every_guard_is_needed GrantPassesLines = (LastRecordFollowsSeen, grant_clocks_below_a_line)
every_guard_is_needed GrantsWhatWasRequested = (LogsHoldOperations, grants_that_nobody_asked_for)
every_guard_is_needed SharesLogsOfSites = (LogsHoldOperations, shares_of_lines_made_up)
every_guard_is_needed CountsWhatWasGranted = (RecordsAreOneCopy, grants_made_up)
every_guard_is_needed CountsWhileActive = (RecordsAreOneCopy, grants_counted_before_the_begin)
every_guard_is_needed CountsInItsEpoch = (RecordsAreOneCopy, grants_of_another_epoch)
every_guard_is_needed PreparesOnce = (VerdictsAgree, prepare_after_an_abort)
every_guard_is_needed PreparesWhenExecuted = (LogsHoldOperations, prepare_during_an_append)
every_guard_is_needed VotesWhenAsked = (RecordsAreOneCopy, votes_before_prepare)
every_guard_is_needed VotesInGrantedLife = (RecordsAreOneCopy, votes_of_another_life)
every_guard_is_needed RecordsPrepareWhenAsked = (RecordsAreOneCopy, prepare_records_before_prepare)
every_guard_is_needed CommitsWhenVoting = (RecordsAreApart, commits_twice)
every_guard_is_needed AllHaveVoted = (RecordsAreOneCopy, commits_without_votes)
every_guard_is_needed StampIsItsClients = (RecordsAreApart, stamps_of_another_client)
every_guard_is_needed StampPassesClock = (RecordsAreOneCopy, stamps_that_ignore_the_clocks)
every_guard_is_needed RecordHasOperations = (RecordsAreOneCopy, records_of_other_operations)
every_guard_is_needed AbortsBeforeRecord = (VerdictsAgree, aborts_after_the_record)
every_guard_is_needed RisesWithNoneRunning = (RecordsAreOneCopy, transactions_that_outlive_a_fall)
every_guard_is_needed RisesPastRecords = (RecordsAreApart, clients_that_forget_their_stamps)
every_guard_is_needed LearnsWhatWasAnnounced = (LogsHoldOperations, verdicts_made_up)
every_guard_is_needed SnapshotTellsDeeds = (RecordsAreOneCopy, snapshots_of_an_older_log)
every_guard_is_needed SnapshotIsOfClosed = (RecordsAreOneCopy, snapshots_of_open_sites)
every_guard_is_needed SnapshotPassesDone = (RecordsAreOneCopy, snapshot_clocks_below_a_done_record)
every_guard_is_needed SnapshotPassesInstalls = (RecordsAreOneCopy, snapshot_clocks_below_an_install)
every_guard_is_needed DecidesByPlan = (RecordsAreOneCopy, closes_by_another_plan)
every_guard_is_needed DecidesFromSnapshots = (RecordsAreOneCopy, snapshots_made_up)
every_guard_is_needed DecidesNextEpoch = (RecordsAreOneCopy, snapshots_of_an_older_epoch)
every_guard_is_needed ClosesEnough = (RecordsAreOneCopy, closes_too_few_sites)
every_guard_is_needed ClosedSitesAnswered = (RecordsAreOneCopy, closes_of_silent_sites)
every_guard_is_needed ResolvesPrepared = (RecordsAreOneCopy, decides_without_the_prepared)
every_guard_is_needed MergesEveryEntry = (RecordsAreOneCopy, merges_of_one_entry_for_several)
every_guard_is_needed DecidePassesCommitted = (RecordsAreOneCopy, decide_clocks_below_a_committed_stamp)
every_guard_is_needed MergesLogs = (RecordsAreOneCopy, logs_not_merged)
every_guard_is_needed MergesOnlyCommitted = (RecordsAreOneCopy, merges_of_lines_made_up)
every_guard_is_needed DecidePassesSnapshots = (RecordsAreOneCopy, decide_clocks_below_a_snapshot)
every_guard_is_needed InstallsWhatWasDecided = (RecordsAreOneCopy, installs_made_up)
every_guard_is_needed InstallsLaterEpoch = (RecordsAreOneCopy, installs_of_the_same_epoch)
