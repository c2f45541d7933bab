-- That a run is disciplined is found by evaluation: of each act, the fact that it keeps the discipline, or none.
use Rattle.std.proofs.Common.{◌≡◌, ◌≢◌, ℕ, ◌<◌, ◌==◌, Bool, true, false, List, [], ◌∷◌, Option, Some, None, option_map}
use Rattle.std.proofs.Common.{refl, subst}
use Rattle.std.proofs.lemmas.Bool.{eqb-false}
use Rattle.qc_entry.specs.declared.line.Line.{Line}
use Rattle.qc_entry.specs.declared.line.OwnLine.{OwnLine}
use Rattle.qc_entry.specs.declared.line.ReadLock.{ReadLock}
use Rattle.qc_decl.specs.Vocabulary.{append_need_of, three}
use Rattle.qc_decl.specs.declared.declaration.Declaration.{Declaration}
use Rattle.qc_list.specs.Vocabulary.{In}
use Rattle.theory_machine.specs.Vocabulary.{Abort, Act, Announce, Begin, Choose, Close, Commit, CommitUnknown, Count}
use Rattle.theory_machine.specs.Vocabulary.{Decide, Decision, Execute, ExecuteAbsent, Grant, Granted, Install, Item}
use Rattle.theory_machine.specs.Vocabulary.{Learn, Lock, Own, Prepare, PrepareLost, Recover, Rise, RiseClient}
use Rattle.theory_machine.specs.Vocabulary.{SendAppend, Snapshot, State, TakeSnapshot, Vote, epoch_from, every_guard}
use Rattle.theory_machine.specs.Vocabulary.{site_after, state}
use Rattle.theory_witnesses.proofs.Accepted.{moving_register_accepted}
use Rattle.theory_witnesses.proofs.Alike.{same_line, same_list}
use Rattle.theory_witnesses.proofs.Allowed.{run_of}
use Rattle.theory_witnesses.proofs.AllowedSites.{is_requested, no_items, no_lines}
use Rattle.theory_witnesses.proofs.Finding.{IsFound, below, both, every, one_of, proof_of, same_number, some}
use Rattle.theory_witnesses.proofs.WitnessRuns.{one_epoch_commits, shares_bring_what_was_missed, two_epochs_commit}
use Rattle.theory_witnesses.specs.Vocabulary.{acts_of, moving_register, one_epoch, shared_write, three_in_two_epochs}
use Rattle.theory_witnesses.specs.Vocabulary.{two_epochs}
use Rattle.theory_bases.specs.Vocabulary.{AreDisciplined, HasLowSnapshot, IsDisciplined, IsDisciplinedRun}
use Rattle.theory_bases.specs.Vocabulary.{IsGrantOfEpoch, IsShareOfEpoch, WasLogInEpoch, low_snapshot, two_moves}

-- an own line's event has a final threshold
abbrev Weighs : Declaration → ℕ → Item → Type 0
Weighs decl k x = (o : OwnLine) → x ≡ Own o → 0 < append_need_of decl k o.object o.event

-- a lock is no own line
pub lock_weighs : (decl : Declaration) (k : ℕ) (l : ReadLock) → Weighs decl k (Lock l)
lock_weighs decl k l o e = absurd (let never : ⊥ = cc in never)

pub own_weighs : (decl : Declaration) (k : ℕ) (o : OwnLine) → 0 < append_need_of decl k o.object o.event
    → Weighs decl k (Own o)
own_weighs decl k o p q e = let same : o ≡ q = cc in
    subst (λ (x : OwnLine). 0 < append_need_of decl k x.object x.event) same p

abbrev weighs : (decl : Declaration) (k : ℕ) (x : Item) → Option (Weighs decl k x)
weighs decl k (Lock l) = Some (lock_weighs decl k l)
weighs decl k (Own o) = option_map (own_weighs decl k o) (below 0 (append_need_of decl k o.object o.event))

abbrev grant_of_epoch : (decl : Declaration) (now : State) (g : Granted) → Option (IsGrantOfEpoch decl now g)
grant_of_epoch decl now g = option_map made
    (both (same_number g.epoch (now.epoch g.tx)) (every (Weighs decl g.epoch) (weighs decl g.epoch) g.items))
  where
    made : (g.epoch ≡ now.epoch g.tx) × ((x : Item) → In x g.items → Weighs decl g.epoch x) → IsGrantOfEpoch decl now g
    made f = record { epoch = f.0; weighs = λ o h. f.1 (Own o) h o refl }

-- some site had the log in the epoch
abbrev was_log_in_epoch : (now : State) (epoch : ℕ) (log : List Line) → Option (WasLogInEpoch now epoch log)
was_log_in_epoch now epoch log =
    one_of
    (option_map (λ f. (f.item, f.stands, f.holds.0, f.holds.1))
    (some (λ (h : Granted). (h.epoch ≡ epoch) × (log ≡ (site_after h.before).volatile))
    (λ h. both (same_number h.epoch epoch) (same_list same_line log (site_after h.before).volatile)) now.granted))
    (option_map (λ f. (f.item, f.stands, f.holds.0, f.holds.1))
    (some (λ (s : Snapshot). (epoch_from 1 s.before ≡ epoch) × (log ≡ (site_after s.before).volatile))
    (λ s. both (same_number (epoch_from 1 s.before) epoch)
    (same_list same_line log (site_after s.before).volatile)) now.snapshots))

abbrev share_of_epoch : (now : State) (g : Granted) → Option (IsShareOfEpoch now g)
share_of_epoch now g =
    option_map (λ f. record { none = f.0; brings = f.1 })
    (both (no_items g.items) (one_of (no_lines g.view) (was_log_in_epoch now g.epoch g.view)))

abbrev pub different : (a b : ℕ) → Option (a ≢ b)
different a b = by (a == b) refl
  where
    by : (t : Bool) → (a == b) ≡ t → Option (a ≢ b)
    by true e = None
    by false e = Some (eqb-false a b e)

abbrev disciplined_act : (decl : Declaration) (now : State) (a : Act) → Option (IsDisciplined decl now a)
disciplined_act decl now (Begin tx epoch) = Some tt
disciplined_act decl now (Choose tx operation) = Some tt
disciplined_act decl now (SendAppend s) = Some tt
disciplined_act decl now (Execute tx) = Some tt
disciplined_act decl now (ExecuteAbsent tx operation) = Some tt
disciplined_act decl now (Grant g) =
    one_of (share_of_epoch now g) (both (is_requested now.appends g) (grant_of_epoch decl now g))
disciplined_act decl now (Count g) = Some tt
disciplined_act decl now (Prepare tx) = Some tt
disciplined_act decl now (Vote site tx) = Some tt
disciplined_act decl now (PrepareLost site tx) = Some tt
disciplined_act decl now (Commit c) = Some tt
disciplined_act decl now (CommitUnknown c) = Some tt
disciplined_act decl now (Recover tx with_record) = Some tt
disciplined_act decl now (Abort tx) = Some tt
disciplined_act decl now (RiseClient client clock) = Some tt
disciplined_act decl now (Announce tx) = Some tt
disciplined_act decl now (Learn site v) = Some tt
disciplined_act decl now (Rise site) = Some tt
disciplined_act decl now (Close site) = Some tt
disciplined_act decl now (TakeSnapshot s) = Some tt
disciplined_act decl now (Decide d) = every (λ (e : Decision). e.epoch ≢ d.epoch)
    (λ e. different e.epoch d.epoch) now.decided
disciplined_act decl now (Install site d) = Some tt

abbrev pub disciplined_of : (decl : Declaration) (acts : List Act) → Option (AreDisciplined decl acts)
disciplined_of decl [] = Some tt
disciplined_of decl (a ∷ older) = both (disciplined_act decl (state older) a) (disciplined_of decl older)

pub one_epoch_is_disciplined : IsDisciplinedRun three one_epoch
one_epoch_is_disciplined = record {
  accepted = one_epoch_commits.accepted;
  run = one_epoch_commits.run;
  disciplined = proof_of (disciplined_of three (acts_of one_epoch)) refl;
}

pub shares_are_disciplined : IsDisciplinedRun three shared_write
shares_are_disciplined = record {
  accepted = shares_bring_what_was_missed.accepted;
  run = shares_bring_what_was_missed.run;
  disciplined = proof_of (disciplined_of three (acts_of shared_write)) refl;
}

pub two_epochs_are_disciplined : IsDisciplinedRun three_in_two_epochs two_epochs
two_epochs_are_disciplined = record {
  accepted = two_epochs_commit.accepted;
  run = two_epochs_commit.run;
  disciplined = proof_of (disciplined_of three_in_two_epochs (acts_of two_epochs)) refl;
}

pub two_moves_are_disciplined : IsDisciplinedRun moving_register two_moves
two_moves_are_disciplined = record {
  accepted = moving_register_accepted;
  run = proof_of (run_of every_guard moving_register two_moves) refl;
  disciplined = proof_of (disciplined_of moving_register (acts_of two_moves)) refl;
}

-- of a snapshot, a line above its clock
abbrev Low : Snapshot → Type 0
Low s = IsFound (λ (l : Line). s.clock < l.stamp.clock) (site_after s.before).volatile

abbrev low_in : (now : State) → Option (HasLowSnapshot now)
low_in now = option_map made (some Low (λ s. some (λ (l : Line). s.clock < l.stamp.clock)
    (λ l. below s.clock l.stamp.clock) (site_after s.before).volatile) now.snapshots)
  where
    made : IsFound Low now.snapshots → HasLowSnapshot now
    made f = record {
      snapshot = f.item;
      taken = f.stands;
      line = f.holds.item;
      stands = f.holds.stands;
      low = f.holds.holds;
    }

pub low_is_disciplined : IsDisciplinedRun moving_register low_snapshot
low_is_disciplined = record {
  accepted = moving_register_accepted;
  run = proof_of (run_of every_guard moving_register low_snapshot) refl;
  disciplined = proof_of (disciplined_of moving_register (acts_of low_snapshot)) refl;
}

pub low_is_low : HasLowSnapshot (state (acts_of low_snapshot))
low_is_low = proof_of (low_in (state (acts_of low_snapshot))) refl
