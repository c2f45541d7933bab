-- Each act is found to be allowed, where these guards are asked; and so a story is found to be a run.
use Rattle.std.proofs.Common.{◌≡◌, ℕ, ◌≤◌, Bool, true, false, ◌⊎◌, inl, inr, IsSome, List, [], ◌∷◌, Option, Some, None}
use Rattle.std.proofs.Common.{option_map, refl, subst}
use Rattle.qc_stamp.specs.declared.stamp.TxId.{TxId}
use Rattle.qc_entry.specs.declared.record.Commit.{Commit as CommitRecord}
use Rattle.qc_plan.specs.declared.plan.Plan.{Plan}
use Rattle.qc_decl.specs.Vocabulary.{append_need_of, plan_in}
use Rattle.qc_decl.specs.declared.declaration.Declaration.{Declaration}
use Rattle.theory_onecopy.specs.Vocabulary.{Executed, own_line}
use Rattle.qc_list.specs.Vocabulary.{In}
use Rattle.theory_machine.specs.Vocabulary.{Abort, Aborted, AbortsBeforeRecord, AbsentHasNoResponse, Act, Active}
use Rattle.theory_machine.specs.Vocabulary.{Announce, AppendQuorumIsMet, AppendRequest, AppendsWhatIsChosen, Asked}
use Rattle.theory_machine.specs.Vocabulary.{Begin, BeginsInPlannedEpoch, BeginsOnce, Choose, ChoosesOneAtATime}
use Rattle.theory_machine.specs.Vocabulary.{ChosenHasResponse, Close, Commit, CommitUnknown, Committed, Count}
use Rattle.theory_machine.specs.Vocabulary.{CountsInItsEpoch, CountsWhatWasGranted, CountsWhileActive, Decide, Execute}
use Rattle.theory_machine.specs.Vocabulary.{ExecuteAbsent, Grant, GrantTellsDeeds, GrantTellsLife, Granted}
use Rattle.theory_machine.specs.Vocabulary.{GrantsWhatWasRequested, Guard, HasQuorum, HasRecord, Install}
use Rattle.theory_machine.specs.Vocabulary.{InstallsLaterEpoch, InstallsWhatWasDecided, IsAllowedBy, IsAppendOfBy}
use Rattle.theory_machine.specs.Vocabulary.{IsLive, IsRunBy, Item, Learn, LearnsWhatWasAnnounced, MayPrepare, NotBegun}
use Rattle.theory_machine.specs.Vocabulary.{OperatesWhileActive, Own, Pending, Prepare, PrepareLost, PreparesOnce}
use Rattle.theory_machine.specs.Vocabulary.{PreparesWhenExecuted, RecordsPrepareWhenAsked, Recover, Rise, RiseClient}
use Rattle.theory_machine.specs.Vocabulary.{RisesPastRecords, RisesWithNoneRunning, SendAppend, SnapshotTellsDeeds}
use Rattle.theory_machine.specs.Vocabulary.{State, Status, TakeSnapshot, Vote, VotesInGrantedLife, VotesWhenAsked}
use Rattle.theory_machine.specs.Vocabulary.{Voting, epoch_from, state}
use Rattle.theory_witnesses.proofs.Alike.{same_decision, same_deed, same_granted, same_list, same_verdict}
use Rattle.theory_witnesses.proofs.AllowedClients.{append_of, executed_from, is_active, is_new, may_commit}
use Rattle.theory_witnesses.proofs.AllowedDecisions.{may_decide}
use Rattle.theory_witnesses.proofs.AllowedSites.{may_grant, may_snapshot, is_requested_or_shared}
use Rattle.theory_witnesses.proofs.Begun.{begun, new_or_begun}
use Rattle.theory_witnesses.proofs.Finding.{where_asked, at_most, below, both, every, member, same_number, where_same}
use Rattle.theory_witnesses.proofs.Finding.{where_same_tx}
use Rattle.theory_witnesses.proofs.Quorums.{quorum}
use Rattle.theory_witnesses.specs.Vocabulary.{Move, acts_from, acts_of}

abbrev none_chosen : (o : Option Executed) → Option (o ≡ None)
none_chosen None = Some refl
none_chosen (Some d) = None

abbrev none_told : (o : Option ℕ) → Option (o ≡ None)
none_told None = Some refl
none_told (Some r) = None

abbrev some_told : (o : Option ℕ) → Option (IsSome o)
some_told None = None
some_told (Some r) = Some refl

abbrev has_plan : (o : Option Plan) → Option ((plan : Plan) × (o ≡ Some plan))
has_plan None = None
has_plan (Some plan) = Some (plan, refl)

abbrev pending : (s : Status) → Option ((c : CommitRecord) × (s ≡ Pending c))
pending (Pending c) = Some (c, refl)
pending _ = None

abbrev may_prepare : (s : Status) → Option (MayPrepare s)
may_prepare NotBegun = None
may_prepare Active = None
may_prepare Voting = Some tt
may_prepare (Pending c) = Some tt
may_prepare (Committed c) = Some tt
may_prepare Aborted = Some tt

abbrev running : (s : Status) → Option ((s ≡ Active) ⊎ (s ≡ Voting))
running Active = Some (inl refl)
running Voting = Some (inr refl)
running _ = None

abbrev not_live : (s : Status) → Option (IsLive s → ⊥)
not_live NotBegun = Some (λ x. x)
not_live Active = None
not_live Voting = None
not_live (Pending c) = Some (λ x. x)
not_live (Committed c) = Some (λ x. x)
not_live Aborted = Some (λ x. x)

-- an operation for an Append of what wasn't chosen
abbrev stand_in : AppendRequest → Executed
stand_in s = by s.items
  where
    by : List Item → Executed
    by (Own o ∷ xs) = record {
      number = o.op;
      op = record { object = o.object; inv = 0; resp = None };
      event = o.event;
      view = s.view;
      own = [];
    }
    by _ = record { number = 0; op = record { object = 0; inv = 0; resp = None }; event = 0; view = s.view; own = [] }

abbrev may_append : (ask : Guard → Bool) (decl : Declaration) (now : State) (s : AppendRequest) (is : Bool)
    (o : Option Executed) → now.chosen s.tx ≡ o
    → Option ((operation : Executed) × Asked is (now.chosen s.tx ≡ Some operation)
    × IsAppendOfBy ask decl (now.epoch s.tx) operation s)
may_append ask decl now s true None e = None
may_append ask decl now s true (Some d) e = option_map (λ f. (d, e, f)) (append_of ask decl (now.epoch s.tx) d s)
may_append ask decl now s false o e = option_map (λ f. (stand_in s, tt, f))
    (append_of ask decl (now.epoch s.tx) (stand_in s) s)

abbrev may_execute : (ask : Guard → Bool) (decl : Declaration) (now : State) (tx : TxId) (o : Option Executed)
    → now.chosen tx ≡ o
    → Option ((operation : Executed) × (now.chosen tx ≡ Some operation)
    × Asked (ask AppendQuorumIsMet) (HasQuorum decl (now.epoch tx) now.counted tx (Own (own_line operation))
    (append_need_of decl (now.epoch tx) operation.op.object operation.event)))
may_execute ask decl now tx None e = None
may_execute ask decl now tx (Some d) e =
    option_map (λ f. (d, e, f)) (where_asked (ask AppendQuorumIsMet)
    (quorum decl (now.epoch tx) now.counted tx (Own (own_line d))
    (append_need_of decl (now.epoch tx) d.op.object d.event)))

-- what concerns all of a client's transactions is found among those that have begun
abbrev none_runs : (acts : List Act) (client : ℕ)
    → Option ((tx : TxId) → tx.client ≡ client → IsLive ((state acts).status tx) → ⊥)
none_runs acts client = option_map made (every (λ (tx : TxId). tx.client ≡ client → IsLive ((state acts).status tx) → ⊥)
    (λ tx. where_same tx.client client (not_live ((state acts).status tx))) (begun acts))
  where
    made : ((tx : TxId) → In tx (begun acts) → tx.client ≡ client → IsLive ((state acts).status tx) → ⊥) → (tx : TxId)
        → tx.client ≡ client → IsLive ((state acts).status tx) → ⊥
    made f tx e live = elim (new_or_begun acts tx) [ inl new ↦ subst IsLive new live | inr h ↦ f tx h e live ]

abbrev past_record : (clock : ℕ) (s : Status) → Option ((c : CommitRecord) → HasRecord s c → c.stamp.clock ≤ clock)
past_record clock (Committed d) = option_map
    (λ (e : d.stamp.clock ≤ clock). λ (c : CommitRecord) (same : d ≡ c). subst
    (λ (x : CommitRecord). x.stamp.clock ≤ clock) same e) (at_most d.stamp.clock clock)
past_record clock (Pending d) = option_map
    (λ (e : d.stamp.clock ≤ clock). λ (c : CommitRecord) (same : d ≡ c). subst
    (λ (x : CommitRecord). x.stamp.clock ≤ clock) same e) (at_most d.stamp.clock clock)
past_record clock NotBegun = Some (λ c h. absurd h)
past_record clock Active = Some (λ c h. absurd h)
past_record clock Voting = Some (λ c h. absurd h)
past_record clock Aborted = Some (λ c h. absurd h)

abbrev past_records : (acts : List Act) (client clock : ℕ)
    → Option ((tx : TxId) (c : CommitRecord) → tx.client ≡ client → HasRecord ((state acts).status tx) c
    → c.stamp.clock ≤ clock)
past_records acts client clock = option_map made
    (every (λ (tx : TxId). tx.client ≡ client → (c : CommitRecord) → HasRecord ((state acts).status tx) c
    → c.stamp.clock ≤ clock) (λ tx. where_same tx.client client (past_record clock ((state acts).status tx)))
    (begun acts))
  where
    made : ((tx : TxId) → In tx (begun acts) → tx.client ≡ client → (c : CommitRecord)
        → HasRecord ((state acts).status tx) c → c.stamp.clock ≤ clock)
        → (tx : TxId) (c : CommitRecord) → tx.client ≡ client → HasRecord ((state acts).status tx) c
        → c.stamp.clock ≤ clock
    made f tx c e has = elim (new_or_begun acts tx)
        [ inl new ↦ absurd (subst (λ (s : Status). HasRecord s c) new has) | inr h ↦ f tx h e c has ]

abbrev pub is_allowed : (ask : Guard → Bool) (decl : Declaration) (acts : List Act) (a : Act)
    → Option (IsAllowedBy ask decl (state acts) a)
is_allowed ask decl acts (Begin tx epoch) = let now = state acts in
    both (where_asked (ask BeginsOnce) (is_new (now.status tx)))
    (where_asked (ask BeginsInPlannedEpoch) (has_plan (plan_in decl epoch)))
is_allowed ask decl acts (Choose tx d) =
    let now = state acts in
    option_map (λ f. (f.0, (f.1).0, ((f.1).1).0, ((f.1).1).1))
    (both (where_asked (ask OperatesWhileActive) (is_active (now.status tx)))
    (both (where_asked (ask ChoosesOneAtATime) (none_chosen (now.chosen tx)))
    (both (executed_from ask decl (now.epoch tx) now.counted (now.executed tx) tx d)
    (where_asked (ask ChosenHasResponse) (some_told d.op.resp)))))
is_allowed ask decl acts (SendAppend s) = let now = state acts in
    may_append ask decl now s (ask AppendsWhatIsChosen) (now.chosen s.tx) refl
is_allowed ask decl acts (Execute tx) = let now = state acts in may_execute ask decl now tx (now.chosen tx) refl
is_allowed ask decl acts (ExecuteAbsent tx d) =
    let now = state acts in
    option_map (λ f. (f.0, (f.1).0, ((f.1).1).0, ((f.1).1).1))
    (both (where_asked (ask OperatesWhileActive) (is_active (now.status tx)))
    (both (where_asked (ask ChoosesOneAtATime) (none_chosen (now.chosen tx)))
    (both (executed_from ask decl (now.epoch tx) now.counted (now.executed tx) tx d)
    (where_asked (ask AbsentHasNoResponse) (none_told d.op.resp)))))
is_allowed ask decl acts (Grant g) =
    let now = state acts in
    option_map (λ f. (f.0, (f.1).0, ((f.1).1).0, ((f.1).1).1))
    (both (where_asked (ask GrantTellsDeeds) (same_list same_deed g.before (now.deeds g.site)))
    (both (where_asked (ask GrantTellsLife) (same_number g.life (now.life g.site)))
    (both (may_grant ask decl g) (where_asked (ask GrantsWhatWasRequested) (is_requested_or_shared ask now g)))))
is_allowed ask decl acts (Count g) =
    let now = state acts in
    option_map (λ f. (f.0, (f.1).0, (f.1).1))
    (both (where_asked (ask CountsWhatWasGranted) (member same_granted g now.granted))
    (both (where_asked (ask CountsWhileActive) (is_active (now.status g.tx)))
    (where_asked (ask CountsInItsEpoch) (same_number g.epoch (now.epoch g.tx)))))
is_allowed ask decl acts (Prepare tx) = let now = state acts in
    both (where_asked (ask PreparesOnce) (is_active (now.status tx)))
    (where_asked (ask PreparesWhenExecuted) (none_chosen (now.chosen tx)))
is_allowed ask decl acts (Vote site tx) =
    let now = state acts in
    both (where_asked (ask VotesWhenAsked) (may_prepare (now.status tx)))
    (where_asked (ask VotesInGrantedLife) (every (λ (g : Granted). g.tx ≡ tx → g.site ≡ site → g.life ≡ now.life site)
    (λ g. where_same_tx g.tx tx (where_same g.site site (same_number g.life (now.life site)))) now.counted))
is_allowed ask decl acts (PrepareLost site tx) = let now = state acts in
    where_asked (ask RecordsPrepareWhenAsked) (may_prepare (now.status tx))
is_allowed ask decl acts (Commit c) = may_commit ask (state acts) c
is_allowed ask decl acts (CommitUnknown c) = may_commit ask (state acts) c
is_allowed ask decl acts (Recover tx with_record) = let now = state acts in pending (now.status tx)
is_allowed ask decl acts (Abort tx) = let now = state acts in
    where_asked (ask AbortsBeforeRecord) (running (now.status tx))
is_allowed ask decl acts (RiseClient client clock) =
    both (where_asked (ask RisesWithNoneRunning) (none_runs acts client))
    (where_asked (ask RisesPastRecords) (past_records acts client clock))
is_allowed ask decl acts (Announce tx) = Some tt
is_allowed ask decl acts (Learn site v) = let now = state acts in
    where_asked (ask LearnsWhatWasAnnounced) (member same_verdict v now.verdicts)
is_allowed ask decl acts (Rise site) = Some tt
is_allowed ask decl acts (Close site) = Some tt
is_allowed ask decl acts (TakeSnapshot s) = let now = state acts in
    both (where_asked (ask SnapshotTellsDeeds) (same_list same_deed s.before (now.deeds s.site))) (may_snapshot ask s)
is_allowed ask decl acts (Decide d) = may_decide ask decl (state acts) d
is_allowed ask decl acts (Install site d) =
    let now = state acts in both (where_asked (ask InstallsWhatWasDecided) (member same_decision d now.decided))
    (where_asked (ask InstallsLaterEpoch) (below (epoch_from 1 (now.deeds site)) d.epoch))

abbrev run_from : (ask : Guard → Bool) (decl : Declaration) (older : List Act) (story : List Move)
    → Option (IsRunBy ask decl older) → Option (IsRunBy ask decl (acts_from older story))
run_from ask decl older [] run = run
run_from ask decl older (m ∷ ms) run = run_from ask decl (m (state older) ∷ older) ms
    (both (is_allowed ask decl older (m (state older))) run)

-- a story is a run where these guards are asked
abbrev pub run_of : (ask : Guard → Bool) (decl : Declaration) (story : List Move)
    → Option (IsRunBy ask decl (acts_of story))
run_of ask decl story = run_from ask decl [] story (Some tt)
