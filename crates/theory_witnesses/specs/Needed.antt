-- When a guard is needed: where it isn't asked, and every other guard is, some run breaks a guarantee.
use Rattle.std.specs.Prelude.{ℕ, ◌==◌, Bool, not, List, [], ◌∷◌}
use Rattle.qc_decl.specs.declared.declaration.Declaration.{Declaration}
use Rattle.qc_decl.specs.Vocabulary.{IsAccepted}
use Rattle.theory_machine.specs.Vocabulary.{AbortsBeforeRecord, AbsentHasNoResponse, Act, AllHaveVoted, AnswersFromView}
use Rattle.theory_machine.specs.Vocabulary.{AppendCarriesEarlierLines, AppendCarriesOnlyOwnLines, AppendCarriesView}
use Rattle.theory_machine.specs.Vocabulary.{AppendQuorumIsMet, AppendsWhatIsChosen, BeginsInPlannedEpoch, BeginsOnce}
use Rattle.theory_machine.specs.Vocabulary.{ChoosesOneAtATime, ChosenHasResponse, ClosedSitesAnswered, ClosesEnough}
use Rattle.theory_machine.specs.Vocabulary.{CommitsWhenVoting, CountsInItsEpoch, CountsWhatWasGranted}
use Rattle.theory_machine.specs.Vocabulary.{CountsWhileActive, DecidePassesCommitted, DecidePassesSnapshots}
use Rattle.theory_machine.specs.Vocabulary.{DecidesByPlan, DecidesFromSnapshots, DecidesNextEpoch, GrantPassesDone}
use Rattle.theory_machine.specs.Vocabulary.{GrantPassesInstalls, GrantPassesLines, GrantTellsDeeds, GrantTellsEpoch}
use Rattle.theory_machine.specs.Vocabulary.{GrantTellsLife, GrantsUnlessClosed, GrantsWhatWasRequested}
use Rattle.theory_machine.specs.Vocabulary.{GrantsWithoutConflict, Guard, InstallsLaterEpoch, InstallsWhatWasDecided}
use Rattle.theory_machine.specs.Vocabulary.{InvocationIsDeclared, IsRunBy, LearnsWhatWasAnnounced, MergesEveryEntry}
use Rattle.theory_machine.specs.Vocabulary.{MergesLogs, MergesOnlyCommitted, OperatesWhileActive, OperationsAreNumbered}
use Rattle.theory_machine.specs.Vocabulary.{OwnLinesAreKept, PreparesOnce, PreparesWhenExecuted, ReadQuorumIsMet}
use Rattle.theory_machine.specs.Vocabulary.{RecordHasOperations, RecordsPrepareWhenAsked, ResolvesPrepared}
use Rattle.theory_machine.specs.Vocabulary.{RisesPastRecords, RisesWithNoneRunning, SharesLogsOfSites}
use Rattle.theory_machine.specs.Vocabulary.{SnapshotIsOfClosed}
use Rattle.theory_machine.specs.Vocabulary.{SnapshotPassesDone, SnapshotPassesInstalls, SnapshotTellsDeeds}
use Rattle.theory_machine.specs.Vocabulary.{StampIsItsClients, StampPassesClock, ViewIsWhole, ViewWasShown}
use Rattle.theory_machine.specs.Vocabulary.{VotesInGrantedLife, VotesWhenAsked}
use Rattle.theory_witnesses.specs.Guarantees.{Guarantee, Holds}

-- all guards, in the order of the acts that ask them
abbrev pub guards : List Guard
guards =
    BeginsOnce ∷ BeginsInPlannedEpoch ∷ OperatesWhileActive ∷ ChoosesOneAtATime ∷ AnswersFromView ∷
    InvocationIsDeclared ∷ OperationsAreNumbered ∷ OwnLinesAreKept ∷ ViewWasShown ∷ ViewIsWhole ∷
    ReadQuorumIsMet ∷ ChosenHasResponse ∷ AbsentHasNoResponse ∷ AppendsWhatIsChosen ∷ AppendCarriesView ∷
    AppendCarriesOnlyOwnLines ∷ AppendCarriesEarlierLines ∷ AppendQuorumIsMet ∷ GrantTellsDeeds ∷
    GrantTellsLife ∷ GrantTellsEpoch ∷ GrantsUnlessClosed ∷ GrantPassesInstalls ∷ GrantsWithoutConflict ∷
    GrantPassesDone ∷ GrantPassesLines ∷ GrantsWhatWasRequested ∷ SharesLogsOfSites ∷ CountsWhatWasGranted ∷
    CountsWhileActive ∷
    CountsInItsEpoch ∷ PreparesOnce ∷ PreparesWhenExecuted ∷ VotesWhenAsked ∷ VotesInGrantedLife ∷
    RecordsPrepareWhenAsked ∷ CommitsWhenVoting ∷ AllHaveVoted ∷ StampIsItsClients ∷ StampPassesClock ∷
    RecordHasOperations ∷ AbortsBeforeRecord ∷ RisesWithNoneRunning ∷ RisesPastRecords ∷
    LearnsWhatWasAnnounced ∷ SnapshotTellsDeeds ∷ SnapshotIsOfClosed ∷ SnapshotPassesDone ∷
    SnapshotPassesInstalls ∷ DecidesByPlan ∷ DecidesFromSnapshots ∷ DecidesNextEpoch ∷ ClosesEnough ∷
    ClosedSitesAnswered ∷ ResolvesPrepared ∷ MergesEveryEntry ∷ DecidePassesCommitted ∷ MergesLogs ∷
    MergesOnlyCommitted ∷ DecidePassesSnapshots ∷ InstallsWhatWasDecided ∷ InstallsLaterEpoch ∷ []

-- the place of a guard among all
abbrev pub place_of : Guard → ℕ
place_of BeginsOnce = 0
place_of BeginsInPlannedEpoch = 1
place_of OperatesWhileActive = 2
place_of ChoosesOneAtATime = 3
place_of AnswersFromView = 4
place_of InvocationIsDeclared = 5
place_of OperationsAreNumbered = 6
place_of OwnLinesAreKept = 7
place_of ViewWasShown = 8
place_of ViewIsWhole = 9
place_of ReadQuorumIsMet = 10
place_of ChosenHasResponse = 11
place_of AbsentHasNoResponse = 12
place_of AppendsWhatIsChosen = 13
place_of AppendCarriesView = 14
place_of AppendCarriesOnlyOwnLines = 15
place_of AppendCarriesEarlierLines = 16
place_of AppendQuorumIsMet = 17
place_of GrantTellsDeeds = 18
place_of GrantTellsLife = 19
place_of GrantTellsEpoch = 20
place_of GrantsUnlessClosed = 21
place_of GrantPassesInstalls = 22
place_of GrantsWithoutConflict = 23
place_of GrantPassesDone = 24
place_of GrantPassesLines = 25
place_of GrantsWhatWasRequested = 26
place_of SharesLogsOfSites = 27
place_of CountsWhatWasGranted = 28
place_of CountsWhileActive = 29
place_of CountsInItsEpoch = 30
place_of PreparesOnce = 31
place_of PreparesWhenExecuted = 32
place_of VotesWhenAsked = 33
place_of VotesInGrantedLife = 34
place_of RecordsPrepareWhenAsked = 35
place_of CommitsWhenVoting = 36
place_of AllHaveVoted = 37
place_of StampIsItsClients = 38
place_of StampPassesClock = 39
place_of RecordHasOperations = 40
place_of AbortsBeforeRecord = 41
place_of RisesWithNoneRunning = 42
place_of RisesPastRecords = 43
place_of LearnsWhatWasAnnounced = 44
place_of SnapshotTellsDeeds = 45
place_of SnapshotIsOfClosed = 46
place_of SnapshotPassesDone = 47
place_of SnapshotPassesInstalls = 48
place_of DecidesByPlan = 49
place_of DecidesFromSnapshots = 50
place_of DecidesNextEpoch = 51
place_of ClosesEnough = 52
place_of ClosedSitesAnswered = 53
place_of ResolvesPrepared = 54
place_of MergesEveryEntry = 55
place_of DecidePassesCommitted = 56
place_of MergesLogs = 57
place_of MergesOnlyCommitted = 58
place_of DecidePassesSnapshots = 59
place_of InstallsWhatWasDecided = 60
place_of InstallsLaterEpoch = 61

-- each guard but one is asked
abbrev pub every_guard_but : Guard → Guard → Bool
every_guard_but one guard = not (place_of guard == place_of one)

-- without the guard a run, over an accepted declaration, breaks the guarantee
pub record IsNeeded (guard : Guard) (guarantee : Guarantee) : Type 0 where
  pub decl : Declaration
  pub accepted : IsAccepted decl
  pub acts : List Act
  pub run : IsRunBy (every_guard_but guard) decl acts
  pub broken : Holds guarantee decl acts → ⊥
