-- The guards of the protocol, each by a name and in one sentence. A machine asks a set of them: all are asked of the
-- protocol's runs, and all but one of the runs that show what this one is for.
use Rattle.std.specs.Prelude.{Bool, true, false}

pub data Guard : Type 0 where
  -- a transaction begins
  BeginsOnce : Guard  -- a transaction begins once
  BeginsInPlannedEpoch : Guard  -- a transaction begins in an epoch that has a plan
  -- an operation is chosen, or answered absent
  OperatesWhileActive : Guard  -- an operation is chosen, or answered absent, while its transaction is active
  ChoosesOneAtATime : Guard  -- an operation is chosen where no other is chosen and not yet executed
  AnswersFromView : Guard  -- an operation's reply is one that its view and its own lines allow
  InvocationIsDeclared : Guard  -- an operation's invocation is one of its object's type
  OperationsAreNumbered : Guard  -- an operation's number is the next in its transaction
  OwnLinesAreKept : Guard  -- an operation's own lines are those of all earlier ones of its transaction on the object
  ViewWasShown : Guard  -- each line of a view was shown by a counted grant
  ViewIsWhole : Guard  -- each line of the object that a counted grant showed is in the view
  ReadQuorumIsMet : Guard  -- sites of the initial threshold granted the operation's read lock
  ChosenHasResponse : Guard  -- an operation whose event is to be appended has a response
  AbsentHasNoResponse : Guard  -- an operation that is executed with no append has no response
  -- its event is appended
  AppendsWhatIsChosen : Guard  -- an Append is of the operation that is chosen
  AppendCarriesView : Guard  -- an Append carries the operation's whole view
  AppendCarriesOnlyOwnLines : Guard  -- an Append's lines are its operation's and its transaction's earlier ones
  AppendCarriesEarlierLines : Guard  -- an Append has the lines of earlier operations whose event has a final threshold
  AppendQuorumIsMet : Guard  -- sites of the final threshold granted the event's line
  -- a site grants
  GrantTellsDeeds : Guard  -- a grant shows its site as it is
  GrantTellsLife : Guard  -- a grant tells the life that its site is in
  GrantTellsEpoch : Guard  -- a grant tells the epoch that its site has installed
  GrantsUnlessClosed : Guard  -- a site that is closed grants nothing
  GrantPassesInstalls : Guard  -- a grant's clock has passed the clock of each Install record of its site
  GrantsWithoutConflict : Guard  -- nobody else holds what conflicts with what a site grants
  GrantPassesDone : Guard  -- a grant's clock has passed the stamp of each Done record of its site
  GrantPassesLines : Guard  -- a grant's clock has passed the stamp of each line of its site
  GrantsWhatWasRequested : Guard  -- a grant is for a Read, for an Append that was sent, or a share
  SharesLogsOfSites : Guard  -- a share brings a log that some site had
  -- a client counts a grant
  CountsWhatWasGranted : Guard  -- a client counts a grant that a site gave
  CountsWhileActive : Guard  -- a client counts a grant while its transaction is active
  CountsInItsEpoch : Guard  -- a client counts a grant of a site that was in the transaction's epoch
  -- votes
  PreparesOnce : Guard  -- Prepare is sent for a transaction that is active
  PreparesWhenExecuted : Guard  -- Prepare is sent where no operation is chosen and not yet executed
  VotesWhenAsked : Guard  -- a site votes once the operations are over: Prepare may have been sent
  VotesInGrantedLife : Guard  -- a site votes in the life in which it gave the counted grants
  RecordsPrepareWhenAsked : Guard  -- a Prepare record that brings no vote is written then, too
  -- the commit record
  CommitsWhenVoting : Guard  -- a record is written for a transaction that is voted on
  AllHaveVoted : Guard  -- each site with a counted grant voted Yes
  StampIsItsClients : Guard  -- the stamp has the client's number
  StampPassesClock : Guard  -- the stamp is above the client's clock
  RecordHasOperations : Guard  -- the record has the transaction's operations
  AbortsBeforeRecord : Guard  -- a transaction is given up before its record
  RisesWithNoneRunning : Guard  -- no transaction of a client runs on when the client rises
  RisesPastRecords : Guard  -- a client rises with a clock that has passed the stamps of its records
  LearnsWhatWasAnnounced : Guard  -- a site takes a verdict that was sent
  -- quorums change
  SnapshotTellsDeeds : Guard  -- a snapshot shows its site as it is
  SnapshotIsOfClosed : Guard  -- a snapshot is of a site that is closed
  SnapshotPassesDone : Guard  -- a snapshot's clock has passed the stamp of each Done record of its site
  SnapshotPassesInstalls : Guard  -- a snapshot's clock has passed the clock of each Install record of its site
  DecidesByPlan : Guard  -- the plan of the epoch before tells what weight must close
  DecidesFromSnapshots : Guard  -- an epoch is decided from snapshots that were sent
  DecidesNextEpoch : Guard  -- the snapshots are of sites in the epoch before
  ClosesEnough : Guard  -- the closed sites meet each quorum of the epoch before
  ClosedSitesAnswered : Guard  -- each of the closed sites sent a snapshot
  ResolvesPrepared : Guard  -- the verdict of each transaction that is prepared in a snapshot was sent
  MergesEveryEntry : Guard  -- the new log has the lines of each entry of a prepared transaction that committed
  DecidePassesCommitted : Guard  -- the new clock has passed the stamp of each prepared transaction that committed
  MergesLogs : Guard  -- the new log has each line of the log of each snapshot
  MergesOnlyCommitted : Guard  -- the new log has only lines of those logs and entries
  DecidePassesSnapshots : Guard  -- the new clock has passed the clocks of the snapshots
  InstallsWhatWasDecided : Guard  -- a site installs what was decided
  InstallsLaterEpoch : Guard  -- a site installs a later epoch than its own

-- the fact where the guard is asked, and nothing where it isn't
abbrev pub Asked : Bool → Type 0 → Type 0
Asked true fact = fact
Asked false fact = Unit {0}

abbrev pub every_guard : Guard → Bool
every_guard guard = true
