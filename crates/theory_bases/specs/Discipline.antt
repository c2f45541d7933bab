-- The discipline of epochs: what a system keeps beside the machine's guards, so that each line is of an epoch.
--
-- 1. A site grants to transactions of its own epoch, and of their own lines just those whose event has a final
--    threshold there; another event needs no site, and is appended nowhere.
-- 2. What a site takes for shared another one had in the same epoch.
-- 3. An epoch is decided once.
--
-- The guards leave these open, since the records are one copy's without them.
use Rattle.std.specs.Prelude.{◌≡◌, ◌≢◌, ◌<◌, ◌⊎◌, ℕ, List, [], ◌∷◌}
use Rattle.qc_entry.specs.declared.line.Line.{Line}
use Rattle.qc_entry.specs.declared.line.OwnLine.{OwnLine}
use Rattle.qc_decl.specs.declared.declaration.Declaration.{Declaration}
use Rattle.qc_decl.specs.Vocabulary.{append_need_of}
use Rattle.qc_list.specs.Vocabulary.{In}
use Rattle.theory_machine.specs.Vocabulary.{Abort, Act, Announce, Begin, Choose, Close, Commit, CommitUnknown, Count}
use Rattle.theory_machine.specs.Vocabulary.{Decide, Decision, Execute, ExecuteAbsent, Grant, Granted, Install}
use Rattle.theory_machine.specs.Vocabulary.{IsRequested, Learn, Own, Prepare, PrepareLost, Recover, Rise, RiseClient}
use Rattle.theory_machine.specs.Vocabulary.{SendAppend, Snapshot, State, TakeSnapshot, Vote, epoch_from, site_after}
use Rattle.theory_machine.specs.Vocabulary.{state}

-- a grant is of its transaction's epoch, and its own lines are of events with a final threshold in it
pub record IsGrantOfEpoch (decl : Declaration) (now : State) (g : Granted) : Type 0 where
  pub epoch : g.epoch ≡ now.epoch g.tx
  pub weighs : (o : OwnLine) → In (Own o) g.items → 0 < append_need_of decl g.epoch o.object o.event

-- some site had this log in the epoch, as it granted or in a snapshot
abbrev pub WasLogInEpoch : State → ℕ → List Line → Type 0
WasLogInEpoch now epoch log =
    ((h : Granted) × In h now.granted × (h.epoch ≡ epoch) × (log ≡ (site_after h.before).volatile))
    ⊎ ((s : Snapshot) × In s now.snapshots × (epoch_from 1 s.before ≡ epoch)
    × (log ≡ (site_after s.before).volatile))

-- a share brings nothing, or a log of its own epoch
pub record IsShareOfEpoch (now : State) (g : Granted) : Type 0 where
  pub none : g.items ≡ []
  pub brings : (g.view ≡ []) ⊎ WasLogInEpoch now g.epoch g.view

-- the epoch wasn't decided before
abbrev pub IsDecidedFirst : List Decision → Decision → Type 0
IsDecidedFirst decided d = (e : Decision) → In e decided → e.epoch ≢ d.epoch

-- an act keeps the discipline
abbrev pub IsDisciplined : Declaration → State → Act → Type 0
IsDisciplined decl now (Begin tx epoch) = Unit {0}
IsDisciplined decl now (Choose tx operation) = Unit {0}
IsDisciplined decl now (SendAppend s) = Unit {0}
IsDisciplined decl now (Execute tx) = Unit {0}
IsDisciplined decl now (ExecuteAbsent tx operation) = Unit {0}
IsDisciplined decl now (Grant g) = IsShareOfEpoch now g ⊎ (IsRequested now.appends g × IsGrantOfEpoch decl now g)
IsDisciplined decl now (Count g) = Unit {0}
IsDisciplined decl now (Prepare tx) = Unit {0}
IsDisciplined decl now (Vote site tx) = Unit {0}
IsDisciplined decl now (PrepareLost site tx) = Unit {0}
IsDisciplined decl now (Commit c) = Unit {0}
IsDisciplined decl now (CommitUnknown c) = Unit {0}
IsDisciplined decl now (Recover tx with_record) = Unit {0}
IsDisciplined decl now (Abort tx) = Unit {0}
IsDisciplined decl now (RiseClient client clock) = Unit {0}
IsDisciplined decl now (Announce tx) = Unit {0}
IsDisciplined decl now (Learn site v) = Unit {0}
IsDisciplined decl now (Rise site) = Unit {0}
IsDisciplined decl now (Close site) = Unit {0}
IsDisciplined decl now (TakeSnapshot s) = Unit {0}
IsDisciplined decl now (Decide d) = IsDecidedFirst now.decided d
IsDisciplined decl now (Install site d) = Unit {0}

-- acts, newest first, each of which keeps it after the older ones
abbrev pub AreDisciplined : Declaration → List Act → Type 0
AreDisciplined decl [] = Unit {0}
AreDisciplined decl (a ∷ older) = IsDisciplined decl (state older) a × AreDisciplined decl older
