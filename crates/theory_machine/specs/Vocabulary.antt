-- What proofs, and other crates, name of this crate's definitions.
pub use Rattle.theory_machine.specs.Acts.{Abort, Act, Announce, Begin, Choose, Close, Commit, CommitUnknown, Count}
pub use Rattle.theory_machine.specs.Acts.{Decide, Execute, ExecuteAbsent, Grant, Install, Learn, Prepare, PrepareLost}
pub use Rattle.theory_machine.specs.Acts.{Recover, Rise, RiseClient, SendAppend, TakeSnapshot, Vote, after_act}
pub use Rattle.theory_machine.specs.Acts.{chosen_list, deed_of, deed_of_outcome, recover_records, recover_status, state}
pub use Rattle.theory_machine.specs.Acts.{verdict_of}
pub use Rattle.theory_machine.specs.Asked.{AbortsBeforeRecord, AbsentHasNoResponse, AllHaveVoted, AnswersFromView}
pub use Rattle.theory_machine.specs.Asked.{AppendCarriesEarlierLines, AppendCarriesOnlyOwnLines, AppendCarriesView}
pub use Rattle.theory_machine.specs.Asked.{AppendQuorumIsMet, AppendsWhatIsChosen, Asked, BeginsInPlannedEpoch}
pub use Rattle.theory_machine.specs.Asked.{BeginsOnce, ChoosesOneAtATime, ChosenHasResponse, ClosedSitesAnswered}
pub use Rattle.theory_machine.specs.Asked.{ClosesEnough, CommitsWhenVoting, CountsInItsEpoch, CountsWhatWasGranted}
pub use Rattle.theory_machine.specs.Asked.{CountsWhileActive, DecidePassesCommitted, DecidePassesSnapshots}
pub use Rattle.theory_machine.specs.Asked.{DecidesByPlan, DecidesFromSnapshots, DecidesNextEpoch, GrantPassesDone}
pub use Rattle.theory_machine.specs.Asked.{GrantPassesInstalls, GrantPassesLines, GrantTellsDeeds, GrantTellsEpoch}
pub use Rattle.theory_machine.specs.Asked.{GrantTellsLife, GrantsUnlessClosed, GrantsWhatWasRequested}
pub use Rattle.theory_machine.specs.Asked.{GrantsWithoutConflict, Guard, InstallsLaterEpoch, InstallsWhatWasDecided}
pub use Rattle.theory_machine.specs.Asked.{InvocationIsDeclared, LearnsWhatWasAnnounced, MergesEveryEntry, MergesLogs}
pub use Rattle.theory_machine.specs.Asked.{MergesOnlyCommitted, OperatesWhileActive, OperationsAreNumbered}
pub use Rattle.theory_machine.specs.Asked.{OwnLinesAreKept, PreparesOnce, PreparesWhenExecuted, ReadQuorumIsMet}
pub use Rattle.theory_machine.specs.Asked.{RecordHasOperations, RecordsPrepareWhenAsked, ResolvesPrepared}
pub use Rattle.theory_machine.specs.Asked.{RisesPastRecords, RisesWithNoneRunning, SharesLogsOfSites}
pub use Rattle.theory_machine.specs.Asked.{SnapshotIsOfClosed}
pub use Rattle.theory_machine.specs.Asked.{SnapshotPassesDone, SnapshotPassesInstalls, SnapshotTellsDeeds}
pub use Rattle.theory_machine.specs.Asked.{StampIsItsClients, StampPassesClock, ViewIsWhole, ViewWasShown}
pub use Rattle.theory_machine.specs.Asked.{VotesInGrantedLife, VotesWhenAsked, every_guard}
pub use Rattle.theory_machine.specs.Claims.{FollowsSeen, HasEarlier, IsLogOf, IsVerdictOf, OfAppend, OfDecision}
pub use Rattle.theory_machine.specs.Claims.{OfGrant, OfSite, OfSnapshot}
pub use Rattle.theory_machine.specs.Guards.{Conflict, HasGranted, HasQuorum, HasRecord, IsAllowed, IsAllowedBy}
pub use Rattle.theory_machine.specs.Guards.{IsAppendOf, IsAppendOfBy, IsExecutedFrom, IsExecutedFromBy, IsLive}
pub use Rattle.theory_machine.specs.Guards.{IsMerged, IsRequested, IsResolved, IsResolvedBy, IsRun, IsRunBy, IsShown}
pub use Rattle.theory_machine.specs.Guards.{MayCommit, MayCommitBy, MayDecide, MayDecideBy, MayGrant, MayGrantBy}
pub use Rattle.theory_machine.specs.Guards.{MayPrepare, MaySnapshot, MaySnapshotBy, Shows, op_of, own_on, read_lock}
pub use Rattle.theory_machine.specs.Guards.{weights_of}
pub use Rattle.theory_machine.specs.HeldLaw.{AreBeforeDone, HasPassed, IsBound, IsSince}
pub use Rattle.theory_machine.specs.Logs.{AreInOrder, IsAnsweredFromQuorum, IsAppendClosed, IsClosedAt, IsDependedOn}
pub use Rattle.theory_machine.specs.Logs.{IsExecutedOrChosen, IsNextOperation, IsOwnClosedAt, IsReadAt, IsSiteClosed}
pub use Rattle.theory_machine.specs.Logs.{LogLaws}
pub use Rattle.theory_machine.specs.Names.{put, put_tx}
pub use Rattle.theory_machine.specs.Placed.{place, placed}
pub use Rattle.theory_machine.specs.Plain.{ArePlain, IsFirst, IsPlain, IsPlainDeed}
pub use Rattle.theory_machine.specs.Shares.{IsShare, IsShareBy, WasLogOfSite}
pub use Rattle.theory_machine.specs.Site.{Closes, Deed, DoneRecord, Grants, Held, Installs, Item, LearnsAbort}
pub use Rattle.theory_machine.specs.Site.{LearnsCommit, Lock, Own, Prepares, Promise, Rises, Site, after_commit}
pub use Rattle.theory_machine.specs.Site.{after_deed, after_prepare, done_record, done_records, each_held, empty_site}
pub use Rattle.theory_machine.specs.Site.{epoch_from, held_by_promises, items_of, promise_of, shut_from, site_after}
pub use Rattle.theory_machine.specs.Site.{site_from, stamped_lines, without_promise, without_tx}
pub use Rattle.theory_machine.specs.SiteLaws.{HasDone, HaveNoInstall, Holds, IsLoggedAtDone, IsPreparedWith}
pub use Rattle.theory_machine.specs.SiteLaws.{IsPromiseWith, Phase, SiteLaws, Spares, SparesUntilDone}
pub use Rattle.theory_machine.specs.SiteLaws.{is_prepared_after}
pub use Rattle.theory_machine.specs.State.{Aborted, Active, AppendRequest, Committed, Decision, Granted, NotBegun}
pub use Rattle.theory_machine.specs.State.{Pending, Snapshot, State, Status, Verdict, Voting, YesVote}
pub use Rattle.theory_machine.specs.StateLaws.{AgreesWithStatus, CountedLaw, GrantedLaw, HasDecision, HasRisingEpochs}
pub use Rattle.theory_machine.specs.StateLaws.{IsDecisionFrom, IsOutcome, IsPreparedOrDone, IsRecordOf, KeepsLife}
pub use Rattle.theory_machine.specs.StateLaws.{StateLaws}
