-- What proofs, and other crates, name of this crate's definitions.
pub use Rattle.qc_promise.specs.Account.{Account, ClientRequest, Current, ReadGrant, account_with, clock_with}
pub use Rattle.qc_promise.specs.Account.{is_append, is_prepare, is_read, life_with, new_account, new_current}
pub use Rattle.qc_promise.specs.Account.{requests_for, view_of}
pub use Rattle.qc_promise.specs.Accounting.{account, account_at, account_fallen, account_heard, account_of}
pub use Rattle.qc_promise.specs.Accounting.{account_sent, account_taken, account_told, account_told_in, account_written}
pub use Rattle.qc_promise.specs.Accounting.{counted, counted_for, doomed_if, found_absent, granted, is_open, lived}
pub use Rattle.qc_promise.specs.Accounting.{promised, refused, requested, responded, short_of, taken_for, told_by}
pub use Rattle.qc_promise.specs.Accounting.{with_absent, with_current, with_read, with_response}
pub use Rattle.qc_promise.specs.AdminAccount.{AdminAccount, AdminRequest, AdminWant, Ask, Close, Install, answer_to}
pub use Rattle.qc_promise.specs.AdminAccount.{asks, closes, decided_epoch, installs, is_ask, is_ask_of, is_close}
pub use Rattle.qc_promise.specs.AdminAccount.{is_install, new_admin_account}
pub use Rattle.qc_promise.specs.AdminAccounting.{admin_account, admin_account_at, admin_account_with, admin_counted}
pub use Rattle.qc_promise.specs.AdminAccounting.{admin_ended, admin_heard, admin_requested, admin_sent, admin_taken}
pub use Rattle.qc_promise.specs.AdminAccounting.{admin_written, calls_ask, calls_close, calls_install, commanded}
pub use Rattle.qc_promise.specs.AdminAccounting.{decided_now, if_called_for, is_same_start}
pub use Rattle.qc_promise.specs.AdminDue.{AreAdminDeedsDue, IsAdminDeedDue, IsAdminDue, IsAdminFree, IsAdminInputDue}
pub use Rattle.qc_promise.specs.AdminDue.{IsAdminRecordDue, IsAdminReplyDue, IsDecisionMet, decide_record}
pub use Rattle.qc_promise.specs.AdminDue.{is_called_for}
pub use Rattle.qc_promise.specs.AdminRounds.{Promised, ToldShut, all_answered, ask_of, close_asked, close_round}
pub use Rattle.qc_promise.specs.AdminRounds.{decision_due, first_doubt, fresh_round, is_among, most_questions}
pub use Rattle.qc_promise.specs.AdminRounds.{promised_at, promised_once, shuts_told, stamp_in, standing_for, told_shut}
pub use Rattle.qc_promise.specs.AdminRounds.{unless_among, verdict_of, with_told}
pub use Rattle.qc_promise.specs.AdminRows.{admin_due, admin_row, close_row, closed_sites, decide_due, decided_for}
pub use Rattle.qc_promise.specs.AdminRows.{decided_met, decided_of, decided_row, doubt_row, epoch_row, moved_row}
pub use Rattle.qc_promise.specs.AdminRows.{site_set}
pub use Rattle.qc_promise.specs.Asked.{append_need, are_reads_met, carries, command_asks, commit_asks, do_asks}
pub use Rattle.qc_promise.specs.Asked.{is_asked_for, is_met, is_next_voter, is_of, is_this, own_appended, same_line}
pub use Rattle.qc_promise.specs.Asked.{reads_as, same_mark, same_own, weighs}
pub use Rattle.qc_promise.specs.Atomic.{Atomic, HasBefore, IsAfterSeen}
pub use Rattle.qc_promise.specs.Committed.{commits_by, commits_in, committed, records}
pub use Rattle.qc_promise.specs.Deals.{Dealing, deal, deal_taken, deal_told, dealing_in, deals, dealt, ended, endings}
pub use Rattle.qc_promise.specs.Deals.{is_begun, no_dealing, operation}
pub use Rattle.qc_promise.specs.DiskAccount.{AreFallsBelow, DiskAccount, DiskArm, IsEverInTime, IsFallBelow, IsInTime}
pub use Rattle.qc_promise.specs.DiskAccount.{disk_account, disk_account_with, disk_armed, disk_called, disk_fell}
pub use Rattle.qc_promise.specs.DiskAccount.{disk_fell_by, disk_fell_with, may_have_acted, more_calls, no_disk_account}
pub use Rattle.qc_promise.specs.DiskAccount.{total_below, waiting_after}
pub use Rattle.qc_promise.specs.Due.{Due}
pub use Rattle.qc_promise.specs.Kept.{IsGivenBack, IsKeptAt, Journal, Kept, journal_of, journal_with, no_journal}
pub use Rattle.qc_promise.specs.Kept.{pending_with}
pub use Rattle.qc_promise.specs.Lifetimes.{Lifetime, begun_with, lifetime, records_in, with_deed}
pub use Rattle.qc_promise.specs.Mail.{IsAnswerOf, IsMailStep, IsMailed, IsReceived, IsRequestOf, IsRequestTo}
pub use Rattle.qc_promise.specs.Mail.{asks_answer}
pub use Rattle.qc_promise.specs.Posts.{Act, Fell, IsPostOf, Sent, Told, TurnDue, Wrote, ends_with, fallen_in}
pub use Rattle.qc_promise.specs.Posts.{pending_first, pending_next, posted_due, posted_next, quiet_turn, sending}
pub use Rattle.qc_promise.specs.Posts.{sent_by}
pub use Rattle.qc_promise.specs.Replies.{AreDeedsDue, AreRepliesDue, IsDeedDue, IsFreeFor, IsInputDue, IsRecordDue}
pub use Rattle.qc_promise.specs.Replies.{IsReplyDue, rising_turn}
pub use Rattle.qc_promise.specs.Rounds.{against, answer_by, answer_of, are_votes_in, asked_by, first_against, next_own}
pub use Rattle.qc_promise.specs.Rounds.{participants, resp_of, round_of, standing_of, weights_of}
pub use Rattle.qc_promise.specs.Rows.{answer_row, append_row, commit_of, commit_row, do_row, due, is_declared_for}
pub use Rattle.qc_promise.specs.Rows.{next_commit, next_stamp, read_row, record_with, reply_to, row_of, running_row}
pub use Rattle.qc_promise.specs.Rows.{vote_row}
pub use Rattle.qc_promise.specs.Seen.{Sight, answered, no_sight, seen, seen_in, sees, sight, sight_sent, sight_taken}
pub use Rattle.qc_promise.specs.Seen.{sight_told, waits}
pub use Rattle.qc_promise.specs.SiteClocks.{clock_shown, clocks_at, clocks_in, clocks_in_record, clocks_of}
pub use Rattle.qc_promise.specs.SiteClocks.{clocks_written}
pub use Rattle.qc_promise.specs.SiteDue.{AreDue, IsDueAt, IsDueOrOpen, answers_due, clash_told, close_turn}
pub use Rattle.qc_promise.specs.SiteDue.{closed_refusal, done_turn, epoch_refusal, fits_record, grant_due}
pub use Rattle.qc_promise.specs.SiteDue.{granting_turn, heard_turn, inquiries_due, install_turn, is_declared, is_epoch}
pub use Rattle.qc_promise.specs.SiteDue.{is_marked, is_new_promise, lines_due, promise_due, promise_turn}
pub use Rattle.qc_promise.specs.SiteDue.{recording_turn, refusal_due}
pub use Rattle.qc_promise.specs.SiteDue.{request_turn, shut_due, telling_turn, turn_due, want_refusal}
pub use Rattle.qc_promise.specs.SiteEnds.{frees, is_aborted, is_decision, is_ended, is_final, is_over, redeems}
pub use Rattle.qc_promise.specs.SiteHeld.{Grant, Holding, cuts, grants, held_of_promises, held_shown, holding}
pub use Rattle.qc_promise.specs.SiteHeld.{is_granted, last_cut, standing, standing_as, standing_by, stands, with_cut}
pub use Rattle.qc_promise.specs.SiteHeld.{with_promise}
pub use Rattle.qc_promise.specs.SiteLogs.{Lines, all_arrived, arrived_from, arrived_shown, began_shown}
pub use Rattle.qc_promise.specs.SiteLogs.{begun_with_lines, done_lines, joining, learning}
pub use Rattle.qc_promise.specs.SiteLogs.{lines_done, lines_from, lines_of, lines_shown, log_shown, no_lines}
pub use Rattle.qc_promise.specs.SiteLogs.{risen_with, unknown, with_arrived}
pub use Rattle.qc_promise.specs.SiteLogs.{recorded_by, recorded_from, recorded_shown, since_shown, stamped, view_by}
pub use Rattle.qc_promise.specs.SiteLogs.{view_in, with_given, with_joined, with_written}
pub use Rattle.qc_promise.specs.SitePromises.{is_promised, left_of, prepared_shown, promise_in, promises_of}
pub use Rattle.qc_promise.specs.SitePromises.{promises_since, unless_over, unless_redeemed}
pub use Rattle.qc_promise.specs.SiteRecords.{closed_by, closed_shown, epoch_by, epoch_shown, last_prepare, life_by}
pub use Rattle.qc_promise.specs.SiteRecords.{life_shown, prepare_by}
pub use Rattle.qc_promise.specs.Spent.{Arm, Calls, Spent, Tally, armed, called, fell, may_act, no_calls, no_tally}
pub use Rattle.qc_promise.specs.Spent.{of_fall, of_opening, of_reading, of_record, same_kind, tally, tally_with, used}
pub use Rattle.qc_promise.specs.Spent.{with_calls, without_arm}
pub use Rattle.qc_promise.specs.Status.{AreRight, AreRightFrom, AreRightKept, Begun, Committed, Dead, HasEnded, IsRight}
pub use Rattle.qc_promise.specs.Status.{IsRightKept, IsRightMessage, IsRightRecord, IsRightReply, IsRightVerdict}
pub use Rattle.qc_promise.specs.Status.{Status, Unborn, given_up, status, status_at, status_risen, status_sent}
pub use Rattle.qc_promise.specs.Status.{status_told, status_written}
pub use Rattle.qc_promise.specs.Stores.{AreKept, AreStoreSteps, IsKeptBy, IsKeptOrUnfit, IsOfOthers, IsStoreOf}
pub use Rattle.qc_promise.specs.Stores.{arms_disk, disk_account_after, journal_after}
pub use Rattle.qc_promise.specs.Told.{AreDealt, AreTold, DecisionAgrees, HasCommit, VerdictAgrees}
pub use Rattle.qc_promise.specs.Turns.{AreByTurns, Called, Failing, Fallen, Faulted, Idle, Open, Place, Rising, Saying}
pub use Rattle.qc_promise.specs.Turns.{SaysDown, SaysFault, SaysNeither, SaysUnwritten, Sending, Written, comes_at}
pub use Rattle.qc_promise.specs.Turns.{fallen_with, falls_at, goes, goes_on, other, place_after, rises_at, saying_of}
pub use Rattle.qc_promise.specs.Turns.{sends_at, tells_at, told_first, told_last, writes_at}
