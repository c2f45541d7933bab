-- What holds in every state that a run reaches: the held law, the clock law, and that a transaction has one outcome.
use Rattle.std.specs.Prelude.{◌≡◌, ◌≢◌, ℕ, suc, ◌<◌, ◌≤◌, Bool, true, false, IsTrue, ◌||◌, List, [], ◌∷◌, ◌++◌, map}
use Rattle.std.specs.Prelude.{Option, Some, None}
use Rattle.qc_stamp.specs.declared.stamp.Stamp.{Stamp}
use Rattle.qc_stamp.specs.declared.stamp.TxId.{TxId}
use Rattle.qc_entry.specs.declared.line.Line.{Line}
use Rattle.qc_entry.specs.declared.record.Commit.{Commit as CommitRecord}
use Rattle.qc_decl.specs.declared.declaration.Declaration.{Declaration}
use Rattle.qc_plan.specs.Vocabulary.{Closes as Closing, weight}
use Rattle.qc_plan.specs.declared.plan.Plan.{Plan}
use Rattle.qc_decl.specs.Vocabulary.{plan_in}
use Rattle.qc_list.specs.Vocabulary.{In}
use Rattle.theory_onecopy.specs.Vocabulary.{Executed}
use Rattle.qc_stamp.specs.Vocabulary.{same_tx}
use Rattle.theory_machine.specs.Site.{Promise, Deed, Grants, Prepares, LearnsCommit, LearnsAbort, Closes, Installs}
use Rattle.theory_machine.specs.Site.{Rises, epoch_from, site_after}
use Rattle.theory_machine.specs.SiteLaws.{SparesUntilDone}
use Rattle.theory_machine.specs.State.{Status, NotBegun, Voting, Committed, Aborted, Decision, Granted, Snapshot}
use Rattle.theory_machine.specs.State.{YesVote, Verdict, State}
use Rattle.theory_machine.specs.Guards.{MaySnapshot, IsResolved, HasRecord, MayPrepare, MayGrant, IsLive, op_of}

-- a verdict is the status, which is final
abbrev pub IsOutcome : Status → Option Stamp → Type 0
IsOutcome (Committed c) (Some stamp) = c.stamp ≡ stamp
IsOutcome Aborted None = Unit {0}
IsOutcome _ _ = ⊥

abbrev pub AgreesWithStatus : (TxId → Status) → Deed → Type 0
AgreesWithStatus status (Grants t items view) = Unit {0}
AgreesWithStatus status (Prepares t) = MayPrepare (status t)
AgreesWithStatus status (LearnsCommit t stamp) = IsOutcome (status t) (Some stamp)
AgreesWithStatus status (LearnsAbort t) = IsOutcome (status t) None
AgreesWithStatus status Closes = Unit {0}
AgreesWithStatus status (Installs k c log) = Unit {0}
AgreesWithStatus status Rises = Unit {0}

-- no rise and no Close: the life is the same
abbrev pub KeepsLife : List Deed → Type 0
KeepsLife [] = Unit {0}
KeepsLife (Rises ∷ ds) = ⊥
KeepsLife (Closes ∷ ds) = ⊥
KeepsLife (_ ∷ ds) = KeepsLife ds

-- tx is prepared at the end, or a Done of it stands after it was
abbrev pub IsPreparedOrDone : TxId → Bool → List Deed → Type 0
IsPreparedOrDone tx is [] = IsTrue is
IsPreparedOrDone tx is (Prepares u ∷ ds) = IsPreparedOrDone tx (is || same_tx tx u) ds
IsPreparedOrDone tx true (LearnsCommit u stamp ∷ ds) = (u ≢ tx) → IsPreparedOrDone tx true ds
IsPreparedOrDone tx is (Installs k c log ∷ ds) = Unit {0}
IsPreparedOrDone tx is (_ ∷ ds) = IsPreparedOrDone tx is ds

-- what a site did after a grant
pub record GrantedLaw (ds : List Deed) (life : ℕ) (g : Granted) : Type 0 where
  pub post : List Deed
  pub split : ds ≡ g.before ++ Grants g.tx g.items g.view ∷ post
  pub calm : life ≡ g.life → KeepsLife post
  pub older : g.life ≤ life

-- a counted grant: what its site did since, before and after its vote
pub record CountedLaw (ds : List Deed) (life : ℕ) (status : Status) (votes : List YesVote)
    (g : Granted) : Type 0 where
  pub post : List Deed
  pub split : ds ≡ g.before ++ Grants g.tx g.items g.view ∷ post
  pub fresh : In (Prepares g.tx) g.before → ⊥
  pub unvoted : status ≢ Aborted → life ≡ g.life → SparesUntilDone g.tx false post
  pub voted : status ≢ Aborted → In (record { tx = g.tx; site = g.site }) votes → SparesUntilDone g.tx false post
      × IsPreparedOrDone g.tx false post

-- all counted sites voted, and the stamp is above each clock that was counted
abbrev pub HasAllVotes : List Granted → List YesVote → TxId → Stamp → Type 0
HasAllVotes counted votes tx stamp = (g : Granted) → In g counted → g.tx ≡ tx
    → In (record { tx = tx; site = g.site }) votes × (g.clock < stamp.clock)

-- what is known of a record of tx that is written or pending
pub record IsRecordOf (counted : List Granted) (votes : List YesVote) (clock : ℕ) (executed : List Executed)
    (chosen : Option Executed) (tx : TxId) (c : CommitRecord) : Type 0 where
  pub named : c.tx ≡ tx
  pub client : c.stamp.client ≡ tx.client
  pub low : c.stamp.clock ≤ clock
  pub ops : c.ops ≡ map op_of executed
  pub none_chosen : chosen ≡ None
  pub agreed : HasAllVotes counted votes tx c.stamp

-- a Decide record that was installed
pub record HasDecision (decided : List Decision) (k c : ℕ) (log : List Line) : Type 0 where
  pub by : Decision
  pub stands : In by decided
  pub epoch : by.epoch ≡ k
  pub clock : by.clock ≡ c
  pub logs : by.log ≡ log

-- each Install is of a greater epoch
abbrev pub HasRisingEpochs : ℕ → List Deed → Type 0
HasRisingEpochs e [] = Unit {0}
HasRisingEpochs e (Installs k c log ∷ ds) = (e < k) × HasRisingEpochs k ds
HasRisingEpochs e (_ ∷ ds) = HasRisingEpochs e ds

-- what a Decide record was made from
pub record IsDecisionFrom (decl : Declaration) (snapshots : List Snapshot) (verdicts : List Verdict)
    (d : Decision) : Type 0 where
  pub plan : Plan
  pub planned : (epoch : ℕ) → d.epoch ≡ suc epoch → plan_in decl epoch ≡ Some plan
  pub epochs : (s : Snapshot) → In s d.snapshots → In s snapshots × (d.epoch ≡ suc (epoch_from 1 s.before))
  pub sites : ℕ → Bool
  pub closes : Closing plan (weight sites plan.weights)
  pub each : (site : ℕ) → IsTrue (sites site) → (s : Snapshot) × In s d.snapshots × (s.site ≡ site)
  pub resolved : (s : Snapshot) (p : Promise) → In s d.snapshots → In p (site_after s.before).prepared
      → IsResolved verdicts d p
  pub logs : (s : Snapshot) (l : Line) → In s d.snapshots → In l (site_after s.before).volatile → In l d.log
  pub clocks : (s : Snapshot) → In s d.snapshots → s.clock ≤ d.clock

pub record StateLaws (decl : Declaration) (now : State) : Type 0 where
  pub verdicts : (v : Verdict) → In v now.verdicts → IsOutcome (now.status v.tx) v.stamp
  pub deeds : (s : ℕ) (d : Deed) → In d (now.deeds s) → AgreesWithStatus now.status d
  pub granted : (g : Granted) → In g now.granted → GrantedLaw (now.deeds g.site) (now.life g.site) g
  pub facts : (g : Granted) → In g now.granted → MayGrant decl g
  pub known : (g : Granted) → In g now.counted → In g now.granted
  pub counted : (g : Granted) → In g now.counted
      → CountedLaw (now.deeds g.site) (now.life g.site) (now.status g.tx) now.votes g
  pub votes : (v : YesVote) → In v now.votes → MayPrepare (now.status v.tx)
  pub begun : (g : Granted) → In g now.counted → now.status g.tx ≢ NotBegun
  pub passed : (g : Granted) → In g now.counted → IsLive (now.status g.tx) → g.clock ≤ now.clock g.tx.client
  pub seen_by : (client : ℕ) (g : Granted) → In g (now.seen_by client) → In g now.granted
      × (g.clock ≤ now.clock client)
  pub quiet : (tx : TxId) → now.status tx ≡ Voting → now.chosen tx ≡ None
  pub record_of : (tx : TxId) (c : CommitRecord) → HasRecord (now.status tx) c → IsRecordOf now.counted now.votes
      (now.clock tx.client) (now.executed tx) (now.chosen tx) tx c
  pub apart : (tx u : TxId) (c d : CommitRecord) → HasRecord (now.status tx) c → HasRecord (now.status u) d → tx ≢ u
      → c.stamp ≢ d.stamp
  pub written : (c : CommitRecord) → In c now.records → now.status c.tx ≡ Committed c
  pub writes : (tx : TxId) (c : CommitRecord) → now.status tx ≡ Committed c → In c now.records
  -- epochs
  pub counts_epoch : (g : Granted) → In g now.counted → g.epoch ≡ now.epoch g.tx
  pub planned : (tx : TxId) → now.status tx ≢ NotBegun → (plan : Plan) × (plan_in decl (now.epoch tx) ≡ Some plan)
  pub installed : (s : ℕ) (k c : ℕ) (log : List Line) → In (Installs k c log) (now.deeds s)
      → HasDecision now.decided k c log
  pub rising : (s : ℕ) → HasRisingEpochs 1 (now.deeds s)
  pub snapped : (s : Snapshot) → In s now.snapshots → (later : List Deed) × (now.deeds s.site ≡ s.before ++ later)
  pub answers : (s : Snapshot) → In s now.snapshots → MaySnapshot s
  pub made : (d : Decision) → In d now.decided → IsDecisionFrom decl now.snapshots now.verdicts d
