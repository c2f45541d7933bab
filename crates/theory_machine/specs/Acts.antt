-- What may happen, one act at a time, and the state that it leaves.
-- Two-phase commit with presumed abort (Mohan, Lindsay 1983) over quorum consensus (Gifford 1979, Herlihy 1986).
use Rattle.std.specs.Prelude.{ℕ, suc, max, Bool, true, false, List, [], ◌∷◌, ◌++◌, Option, Some, None}
use Rattle.qc_stamp.specs.declared.stamp.Stamp.{Stamp}
use Rattle.qc_stamp.specs.declared.stamp.TxId.{TxId}
use Rattle.qc_entry.specs.declared.record.Commit.{Commit as CommitRecord}
use Rattle.theory_onecopy.specs.Vocabulary.{Executed}
use Rattle.theory_machine.specs.Names.{put, put_tx}
use Rattle.theory_machine.specs.Site.{Deed, Grants, Prepares, LearnsCommit, LearnsAbort, Closes, Installs, Rises}
use Rattle.theory_machine.specs.State.{Status, NotBegun, Active, Voting, Pending, Committed, Aborted, AppendRequest}
use Rattle.theory_machine.specs.State.{Granted, Verdict, Snapshot, Decision, State}

pub data Act : Type 0 where
  -- a client begins a transaction, in the epoch that it knows
  Begin : (tx : TxId) (epoch : ℕ) → Act
  -- the Read round of an operation is met, and its client chooses a response that the view allows
  Choose : (tx : TxId) (operation : Executed) → Act
  -- the client sends an Append of what it chose
  SendAppend : AppendRequest → Act
  -- the Append round is met: the operation has its response
  Execute : (tx : TxId) → Act
  -- the Read round of an operation is met, and its view allows no response
  ExecuteAbsent : (tx : TxId) (operation : Executed) → Act
  -- a site grants a Read, or an Append that was sent; the request may be late or a copy
  Grant : Granted → Act
  -- the client counts a grant
  Count : Granted → Act
  -- the client sends Prepare to its participants
  Prepare : (tx : TxId) → Act
  -- a site writes a Prepare record, or has one, and votes Yes
  Vote : (site : ℕ) (tx : TxId) → Act
  -- a Prepare record stays though the site couldn't tell that it does, so it doesn't vote
  PrepareLost : (site : ℕ) (tx : TxId) → Act
  -- the client writes its commit record
  Commit : CommitRecord → Act
  -- the client falls as it writes its commit record, which may stand or not
  CommitUnknown : CommitRecord → Act
  -- its records are read again: the commit record stands, or it doesn't
  Recover : (tx : TxId) (with_record : Bool) → Act
  -- the client aborts, or falls before it writes a commit record
  Abort : (tx : TxId) → Act
  -- a client rises with this clock, and has seen nothing in its new life
  RiseClient : (client clock : ℕ) → Act
  -- the client tells how its transaction ended, if it has
  Announce : (tx : TxId) → Act
  -- a site takes a verdict
  Learn : (site : ℕ) → Verdict → Act
  -- a site rises: it has what its records give, and a new life
  Rise : (site : ℕ) → Act
  -- a site writes a Close record: it grants no more in this epoch, drops what isn't prepared, and has a new life
  Close : (site : ℕ) → Act
  -- a site that has closed tells its log and its prepared transactions
  TakeSnapshot : Snapshot → Act
  -- the administrator writes a Decide record
  Decide : Decision → Act
  -- a site writes an Install record of a decision: its log is the decision's, and it holds nothing
  Install : (site : ℕ) → Decision → Act

-- what a site does as it takes the verdict of this stamp, or none
abbrev pub deed_of_outcome : TxId → Option Stamp → Deed
deed_of_outcome tx (Some stamp) = LearnsCommit tx stamp
deed_of_outcome tx None = LearnsAbort tx

-- what a site does as it takes a verdict
abbrev pub deed_of : Verdict → Deed
deed_of v = deed_of_outcome v.tx v.stamp

-- the verdict on a transaction of this status, if it has ended
abbrev pub verdict_of : TxId → Status → List Verdict
verdict_of tx (Committed c) = record { tx = tx; stamp = Some c.stamp } ∷ []
verdict_of tx Aborted = record { tx = tx; stamp = None } ∷ []
verdict_of tx _ = []

-- a pending commit record stands, or it doesn't
abbrev pub recover_status : Bool → Status → Status
recover_status true (Pending c) = Committed c
recover_status false (Pending c) = Aborted
recover_status b s = s

-- the commit records that stand then
abbrev pub recover_records : Bool → Status → List CommitRecord → List CommitRecord
recover_records true (Pending c) rs = c ∷ rs
recover_records b s rs = rs

-- the state with a new status of a transaction
abbrev pub with_status : State → TxId → Status → State
with_status now tx s = record now { status = put_tx now.status tx s }

-- with one more deed of a site
abbrev pub with_deed : State → ℕ → Deed → State
with_deed now site d = record now { deeds = put now.deeds site (now.deeds site ++ d ∷ []) }

-- with more operations of a transaction, and none chosen
abbrev pub with_executed : State → TxId → List Executed → State
with_executed now tx ds =
    record now { executed = put_tx now.executed tx (now.executed tx ++ ds); chosen = put_tx now.chosen tx None }

abbrev pub chosen_list : Option Executed → List Executed
chosen_list None = []
chosen_list (Some d) = d ∷ []

-- with one more deed of a site, and a new life of it
abbrev pub with_life : State → ℕ → Deed → State
with_life now site d = record (with_deed now site d) { life = put now.life site (suc (now.life site)) }

-- with a commit record's stamp as its client's clock
abbrev pub with_stamp : State → CommitRecord → State
with_stamp now c = record now { clock = put now.clock c.tx.client c.stamp.clock }

-- with one more counted grant, which its client has seen, and whose clock it has passed
abbrev pub with_counted : State → Granted → State
with_counted now g = record now {
  counted = g ∷ now.counted;
  clock = put now.clock g.tx.client (max (now.clock g.tx.client) g.clock);
  seen_by = put now.seen_by g.tx.client (g ∷ now.seen_by g.tx.client);
}

-- the state after one act more
abbrev pub after_act : State → Act → State
after_act now (Begin tx epoch) = record (with_status now tx Active) { epoch = put_tx now.epoch tx epoch }
after_act now (Choose tx operation) = record now { chosen = put_tx now.chosen tx (Some operation) }
after_act now (SendAppend s) = record now { appends = s ∷ now.appends }
after_act now (Execute tx) = with_executed now tx (chosen_list (now.chosen tx))
after_act now (ExecuteAbsent tx operation) = with_executed now tx (operation ∷ [])
after_act now (Grant g) =
    record (with_deed now g.site (Grants g.tx g.items g.view)) { granted = g ∷ now.granted }
after_act now (Count g) = with_counted now g
after_act now (Prepare tx) = with_status now tx Voting
after_act now (Vote site tx) =
    record (with_deed now site (Prepares tx)) { votes = record { tx = tx; site = site } ∷ now.votes }
after_act now (PrepareLost site tx) = with_deed now site (Prepares tx)
after_act now (Commit c) = record (with_status (with_stamp now c) c.tx (Committed c)) { records = c ∷ now.records }
after_act now (CommitUnknown c) = with_status (with_stamp now c) c.tx (Pending c)
after_act now (Recover tx with_record) =
    record (with_status now tx (recover_status with_record (now.status tx))) {
      records = recover_records with_record (now.status tx) now.records;
    }
after_act now (Abort tx) = with_status now tx Aborted
after_act now (RiseClient client clock) =
    record now { clock = put now.clock client clock; seen_by = put now.seen_by client [] }
after_act now (Announce tx) = record now { verdicts = verdict_of tx (now.status tx) ++ now.verdicts }
after_act now (Learn site v) = with_deed now site (deed_of v)
after_act now (Rise site) = with_life now site Rises
after_act now (Close site) = with_life now site Closes
after_act now (TakeSnapshot s) = record now { snapshots = s ∷ now.snapshots }
after_act now (Decide d) = record now { decided = d ∷ now.decided }
after_act now (Install site d) = with_deed now site (Installs d.epoch d.clock d.log)

-- the state after acts, newest first, from the start
abbrev pub state : List Act → State
state [] = record {
  epoch = λ tx. 1;
  status = λ tx. NotBegun;
  executed = λ tx. [];
  chosen = λ tx. None;
  clock = λ client. 0;
  seen_by = λ client. [];
  records = [];
  deeds = λ site. [];
  life = λ site. 1;
  appends = [];
  granted = [];
  counted = [];
  votes = [];
  verdicts = [];
  snapshots = [];
  decided = [];
}
state (a ∷ older) = after_act (state older) a
