-- A transaction has one outcome, its status, and verdicts and deeds agree with it (presumed abort: without a record it
-- aborted).
use Rattle.std.proofs.Common.{◌≡◌, ◌≢◌, inl, inr, [], ◌∷◌, Option, Some, None, refl, sym, ap, subst}
use Rattle.qc_stamp.specs.declared.stamp.Stamp.{Stamp}
use Rattle.qc_stamp.specs.declared.stamp.TxId.{TxId}
use Rattle.qc_entry.specs.declared.record.Commit.{Commit as CommitRecord}
use Rattle.qc_list.specs.Vocabulary.{In}
use Rattle.theory_machine.specs.Vocabulary.{Aborted, Active, AgreesWithStatus, Closes, Committed, Deed, Grants}
use Rattle.theory_machine.specs.Vocabulary.{HasRecord, Installs, IsOutcome, KeepsLife, LearnsAbort, LearnsCommit}
use Rattle.theory_machine.specs.Vocabulary.{MayPrepare, NotBegun, Pending, Prepares, Rises, Status, Verdict, Voting}
use Rattle.theory_machine.specs.Vocabulary.{deed_of_outcome, put_tx, verdict_of}
use Rattle.theory_machine.proofs.Names.{put_tx_case}
use Rattle.theory_machine.proofs.Deeds.{IsMild}

pub deed_agrees : (status : TxId → Status) (tx : TxId) (new : Status)
    → ((o : Option Stamp) → IsOutcome (status tx) o → IsOutcome new o) → (MayPrepare (status tx) → MayPrepare new)
    → (d : Deed) → AgreesWithStatus status d → AgreesWithStatus (put_tx status tx new) d
deed_agrees status tx new right preparing (Grants t items view) h = tt
deed_agrees status tx new right preparing (Prepares t) h =
    put_tx_case (λ (s : Status). MayPrepare s) status tx new t
    (λ e. preparing (subst (λ (x : TxId). MayPrepare (status x)) e h)) (λ ne. h)
deed_agrees status tx new right preparing (LearnsCommit t stamp) h =
    put_tx_case (λ (s : Status). IsOutcome s (Some stamp)) status tx new t
    (λ e. right (Some stamp) (subst (λ (x : TxId). IsOutcome (status x) (Some stamp)) e h)) (λ ne. h)
deed_agrees status tx new right preparing (LearnsAbort t) h =
    put_tx_case (λ (s : Status). IsOutcome s None) status tx new t
    (λ e. right None (subst (λ (x : TxId). IsOutcome (status x) None) e h)) (λ ne. h)
deed_agrees status tx new right preparing Closes h = tt
deed_agrees status tx new right preparing (Installs k c log) h = tt
deed_agrees status tx new right preparing Rises h = tt

pub active_mild : (status : TxId → Status) (tx : TxId) → status tx ≡ Active → (d : Deed) → AgreesWithStatus status d
    → IsMild tx d
active_mild status tx e (Grants t items view) h = tt
active_mild status tx e (Prepares t) h = tt
active_mild status tx e (LearnsCommit t stamp) h =
    (λ same. subst (λ (s : Status). IsOutcome s (Some stamp)) e
    (subst (λ (x : TxId). IsOutcome (status x) (Some stamp)) same h))
active_mild status tx e (LearnsAbort t) h =
    (λ same. subst (λ (s : Status). IsOutcome s None) e (subst (λ (x : TxId). IsOutcome (status x) None) same h))
active_mild status tx e Closes h = tt
active_mild status tx e (Installs k c log) h = tt
active_mild status tx e Rises h = tt

-- the record of a right verdict
pub outcome_commit : (s : Status) (stamp : Stamp) → IsOutcome s (Some stamp)
    → (c : CommitRecord) × (s ≡ Committed c) × (c.stamp ≡ stamp)
outcome_commit (Committed c) stamp h = (c, refl, h)
outcome_commit NotBegun stamp h = absurd h
outcome_commit Active stamp h = absurd h
outcome_commit Voting stamp h = absurd h
outcome_commit (Pending c) stamp h = absurd h
outcome_commit Aborted stamp h = absurd h

pub outcome_aborted : (s : Status) → IsOutcome s None → s ≡ Aborted
outcome_aborted Aborted h = refl
outcome_aborted NotBegun h = absurd h
outcome_aborted Active h = absurd h
outcome_aborted Voting h = absurd h
outcome_aborted (Pending stamp) h = absurd h
outcome_aborted (Committed stamp) h = absurd h

pub verdict_is : (tx : TxId) (s : Status) (t : Verdict) → In t (verdict_of tx s) → (t.tx ≡ tx) × IsOutcome s t.stamp
verdict_is tx (Committed c) t (inl same) =
    (ap (λ (x : Verdict). x.tx) same, subst (λ (x : Verdict). IsOutcome (Committed c) x.stamp) (sym same) refl)
verdict_is tx (Committed c) t (inr h) = absurd h
verdict_is tx Aborted t (inl same) = (
  ap (λ (x : Verdict). x.tx) same,
  subst (λ (x : Verdict). IsOutcome Aborted x.stamp) (sym same) tt,
)
verdict_is tx Aborted t (inr h) = absurd h
verdict_is tx NotBegun t h = absurd h
verdict_is tx Active t h = absurd h
verdict_is tx Voting t h = absurd h
verdict_is tx (Pending c) t h = absurd h

pub outcome_agrees : (status : TxId → Status) (tx : TxId) (o : Option Stamp) → IsOutcome (status tx) o
    → AgreesWithStatus status (deed_of_outcome tx o)
outcome_agrees status tx None h = h
outcome_agrees status tx (Some c) h = h

pub outcome_keeps_life : (tx : TxId) (o : Option Stamp) → KeepsLife (deed_of_outcome tx o ∷ [])
outcome_keeps_life tx None = tt
outcome_keeps_life tx (Some c) = tt

pub committed_record : (s : Status) (c : CommitRecord) → s ≡ Committed c → HasRecord s c
committed_record s c e = subst (λ (x : Status). HasRecord x c) (sym e) refl

-- an active transaction has no record
pub not_active : (status : TxId → Status) (tx u : TxId) (c : CommitRecord) → status tx ≡ Active → HasRecord (status u) c
    → u ≢ tx
not_active status tx u c e h same = subst (λ (s : Status). HasRecord s c) e
    (subst (λ (x : TxId). HasRecord (status x) c) same h)
