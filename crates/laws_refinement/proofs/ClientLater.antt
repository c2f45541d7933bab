-- Whatever clients do in the machine, sites and the administrator agree with it as before.
use Rattle.std.proofs.Common.{◌≡◌, ◌≢◌, ℕ, Bool, true, false, inl, inr, List, refl, sym, ap, ◌∙◌, subst}
use Rattle.qc_stamp.specs.declared.stamp.TxId.{TxId}
use Rattle.qc_list.specs.Vocabulary.{In}
use Rattle.qc_list.proofs.Members.{In-second}
use Rattle.qc_entry.specs.declared.record.Commit.{Commit as CommitRecord}
use Rattle.qc_decl.specs.declared.declaration.Declaration.{Declaration}
use Rattle.theory_machine.specs.Vocabulary.{Abort, Aborted, Act, Active, Announce, Begin, Choose, Close, Commit}
use Rattle.theory_machine.specs.Vocabulary.{CommitUnknown, Committed, Count, Decide, Execute, ExecuteAbsent, Grant}
use Rattle.theory_machine.specs.Vocabulary.{Granted, Install, IsAllowed, Learn, MayPrepare, NotBegun, Pending, Prepare}
use Rattle.theory_machine.specs.Vocabulary.{PrepareLost, Recover, Rise, RiseClient, SendAppend, State, Status}
use Rattle.theory_machine.specs.Vocabulary.{TakeSnapshot, Vote, Voting, after_act, put_tx, recover_status, verdict_of}
use Rattle.theory_machine.proofs.Names.{put_tx_case}
use Rattle.laws_refinement.proofs.MessagesStay.{Later}

-- acts of clients
abbrev pub IsOfClient : Act → Type 0
IsOfClient (Begin tx epoch) = Unit {0}
IsOfClient (Choose tx operation) = Unit {0}
IsOfClient (SendAppend s) = Unit {0}
IsOfClient (Execute tx) = Unit {0}
IsOfClient (ExecuteAbsent tx operation) = Unit {0}
IsOfClient (Count g) = Unit {0}
IsOfClient (Prepare tx) = Unit {0}
IsOfClient (Commit c) = Unit {0}
IsOfClient (CommitUnknown c) = Unit {0}
IsOfClient (Recover tx with_record) = Unit {0}
IsOfClient (Abort tx) = Unit {0}
IsOfClient (RiseClient client clock) = Unit {0}
IsOfClient (Announce tx) = Unit {0}
IsOfClient _ = ⊥

-- one transaction gets a status that isn't less
born_put : (w : State) (tx : TxId) (s : Status) → s ≢ NotBegun → (t : TxId) → w.status t ≢ NotBegun
    → put_tx w.status tx s t ≢ NotBegun
born_put w tx s some t born = put_tx_case (λ (x : Status). x ≢ NotBegun) w.status tx s t (λ same. some) (λ other. born)

asked_put : (w : State) (tx : TxId) (s : Status) → (MayPrepare (w.status tx) → MayPrepare s) → (t : TxId)
    → MayPrepare (w.status t) → MayPrepare (put_tx w.status tx s t)
asked_put w tx s may t asked = put_tx_case (λ (x : Status). MayPrepare x) w.status tx s t
    (λ same. may (subst (λ (u : TxId). MayPrepare (w.status u)) same asked)) (λ other. asked)

status_later : (w : State) (tx : TxId) (s : Status) → s ≢ NotBegun → (MayPrepare (w.status tx) → MayPrepare s)
    → (v : State) → v.status ≡ put_tx w.status tx s → v.epoch ≡ w.epoch → v.counted ≡ w.counted → v.granted ≡ w.granted
    → v.votes ≡ w.votes → v.verdicts ≡ w.verdicts → v.appends ≡ w.appends → v.snapshots ≡ w.snapshots
    → v.decided ≡ w.decided → Later w v
status_later w tx s some may v status epoch counted granted votes verdicts appends snapshots decided = record {
  born = λ t h. subst (λ (f : TxId → Status). f t ≢ NotBegun) (sym status) (born_put w tx s some t h);
  epoch = λ t h. ap (λ (f : TxId → ℕ). f t) epoch;
  asked = λ t h. subst (λ (f : TxId → Status). MayPrepare (f t)) (sym status) (asked_put w tx s may t h);
  counted = λ g h asked. subst (λ (gs : List Granted). In g gs) counted h;
  granted = λ g h. subst (λ (gs : List Granted). In g gs) (sym granted) h;
  votes = λ x h. subst (λ (xs : List _). In x xs) (sym votes) h;
  verdicts = λ x h. subst (λ (xs : List _). In x xs) (sym verdicts) h;
  appends = λ x h. subst (λ (xs : List _). In x xs) (sym appends) h;
  snapshots = λ x h. subst (λ (xs : List _). In x xs) (sym snapshots) h;
  decided = λ x h. subst (λ (xs : List _). In x xs) (sym decided) h;
}

recovered : (b : Bool) (s : Status) (c : CommitRecord) → s ≡ Pending c
    → (recover_status b s ≢ NotBegun) × (MayPrepare s → MayPrepare (recover_status b s))
recovered true s c e = subst (λ (x : Status). (recover_status true x ≢ NotBegun)
    × (MayPrepare x → MayPrepare (recover_status true x))) (sym e) ((λ k. (let never : ⊥ = cc in never)), λ h. tt)
recovered false s c e = subst (λ (x : Status). (recover_status false x ≢ NotBegun)
    × (MayPrepare x → MayPrepare (recover_status false x))) (sym e) ((λ k. (let never : ⊥ = cc in never)), λ h. tt)

pub client_later : (decl : Declaration) (w : State) (a : Act) → IsOfClient a → IsAllowed decl w a
    → Later w (after_act w a)
client_later decl w (Begin tx epoch) its ok = record {
  born = born_put w tx Active (λ e. (let never : ⊥ = cc in never));
  epoch = λ t h. put_tx_case (λ (e : ℕ). e ≡ w.epoch t) w.epoch tx epoch t
      (λ same. absurd (h (subst (λ (u : TxId). w.status u ≡ NotBegun) (sym same) ok.0))) (λ other. refl);
  asked = asked_put w tx Active (λ may. absurd (subst (λ (s : Status). MayPrepare s) ok.0 may));
  counted = λ g h asked. h;
  granted = λ g h. h;
  votes = λ x h. h;
  verdicts = λ x h. h;
  appends = λ x h. h;
  snapshots = λ x h. h;
  decided = λ x h. h;
}
client_later decl w (Choose tx operation) its ok =
    record {
      born = λ t h. h;
      epoch = λ t h. refl;
      asked = λ t h. h;
      counted = λ g h asked. h;
      granted = λ g h. h;
      votes = λ x h. h;
      verdicts = λ x h. h;
      appends = λ x h. h;
      snapshots = λ x h. h;
      decided = λ x h. h;
    }
client_later decl w (SendAppend s) its ok =
    record {
      born = λ t h. h;
      epoch = λ t h. refl;
      asked = λ t h. h;
      counted = λ g h asked. h;
      granted = λ g h. h;
      votes = λ x h. h;
      verdicts = λ x h. h;
      appends = λ x h. inr h;
      snapshots = λ x h. h;
      decided = λ x h. h;
    }
client_later decl w (Execute tx) its ok =
    record {
      born = λ t h. h;
      epoch = λ t h. refl;
      asked = λ t h. h;
      counted = λ g h asked. h;
      granted = λ g h. h;
      votes = λ x h. h;
      verdicts = λ x h. h;
      appends = λ x h. h;
      snapshots = λ x h. h;
      decided = λ x h. h;
    }
client_later decl w (ExecuteAbsent tx operation) its ok =
    record {
      born = λ t h. h;
      epoch = λ t h. refl;
      asked = λ t h. h;
      counted = λ g h asked. h;
      granted = λ g h. h;
      votes = λ x h. h;
      verdicts = λ x h. h;
      appends = λ x h. h;
      snapshots = λ x h. h;
      decided = λ x h. h;
    }
client_later decl w (Count c) its ok = record {
  born = λ t h. h;
  epoch = λ t h. refl;
  asked = λ t h. h;
  counted = λ g h asked. elim h [
    | inl same ↦ absurd (subst (λ (s : Status). MayPrepare s) (ap (λ (x : Granted). w.status x.tx) same ∙ ok.1) asked)
    | inr old ↦ old
  ];
  granted = λ g h. h;
  votes = λ x h. h;
  verdicts = λ x h. h;
  appends = λ x h. h;
  snapshots = λ x h. h;
  decided = λ x h. h;
}
client_later decl w (Prepare tx) its ok =
    status_later w tx Voting (λ e. (let never : ⊥ = cc in never)) (λ h. tt)
    (after_act w (Prepare tx)) refl refl refl refl refl refl refl refl refl
client_later decl w (Commit c) its ok = status_later w c.tx (Committed c) (λ e. (let never : ⊥ = cc in never)) (λ h. tt)
    (after_act w (Commit c)) refl refl refl refl refl refl refl refl refl
client_later decl w (CommitUnknown c) its ok =
    status_later w c.tx (Pending c) (λ e. (let never : ⊥ = cc in never)) (λ h. tt)
    (after_act w (CommitUnknown c)) refl refl refl refl refl refl refl refl refl
client_later decl w (Recover tx b) its ok = let r = recovered b (w.status tx) ok.0 ok.1 in
    status_later w tx (recover_status b (w.status tx)) r.0 r.1
    (after_act w (Recover tx b)) refl refl refl refl refl refl refl refl refl
client_later decl w (Abort tx) its ok = status_later w tx Aborted (λ e. (let never : ⊥ = cc in never)) (λ h. tt)
    (after_act w (Abort tx)) refl refl refl refl refl refl refl refl refl
client_later decl w (RiseClient client clock) its ok =
    record {
      born = λ t h. h;
      epoch = λ t h. refl;
      asked = λ t h. h;
      counted = λ g h asked. h;
      granted = λ g h. h;
      votes = λ x h. h;
      verdicts = λ x h. h;
      appends = λ x h. h;
      snapshots = λ x h. h;
      decided = λ x h. h;
    }
client_later decl w (Announce tx) its ok =
    record {
      born = λ t h. h;
      epoch = λ t h. refl;
      asked = λ t h. h;
      counted = λ g h asked. h;
      granted = λ g h. h;
      votes = λ x h. h;
      verdicts = λ x h. In-second x (verdict_of tx (w.status tx)) w.verdicts h;
      appends = λ x h. h;
      snapshots = λ x h. h;
      decided = λ x h. h;
    }
client_later decl w (Grant g) its ok = absurd its
client_later decl w (Vote site tx) its ok = absurd its
client_later decl w (PrepareLost site tx) its ok = absurd its
client_later decl w (Learn site v) its ok = absurd its
client_later decl w (Rise site) its ok = absurd its
client_later decl w (Close site) its ok = absurd its
client_later decl w (TakeSnapshot s) its ok = absurd its
client_later decl w (Decide d) its ok = absurd its
client_later decl w (Install site d) its ok = absurd its

-- what sites did stays
pub record SitesStay (w v : State) : Type 0 where
  pub deeds : v.deeds ≡ w.deeds
  pub life : v.life ≡ w.life
  pub granted : v.granted ≡ w.granted

pub client_stays : (w : State) (a : Act) → IsOfClient a → SitesStay w (after_act w a)
client_stays w (Begin tx epoch) its = record { deeds = refl; life = refl; granted = refl }
client_stays w (Choose tx operation) its = record { deeds = refl; life = refl; granted = refl }
client_stays w (SendAppend s) its = record { deeds = refl; life = refl; granted = refl }
client_stays w (Execute tx) its = record { deeds = refl; life = refl; granted = refl }
client_stays w (ExecuteAbsent tx operation) its = record { deeds = refl; life = refl; granted = refl }
client_stays w (Count c) its = record { deeds = refl; life = refl; granted = refl }
client_stays w (Prepare tx) its = record { deeds = refl; life = refl; granted = refl }
client_stays w (Commit c) its = record { deeds = refl; life = refl; granted = refl }
client_stays w (CommitUnknown c) its = record { deeds = refl; life = refl; granted = refl }
client_stays w (Recover tx b) its = record { deeds = refl; life = refl; granted = refl }
client_stays w (Abort tx) its = record { deeds = refl; life = refl; granted = refl }
client_stays w (RiseClient client clock) its = record { deeds = refl; life = refl; granted = refl }
client_stays w (Announce tx) its = record { deeds = refl; life = refl; granted = refl }
client_stays w (Grant g) its = absurd its
client_stays w (Vote site tx) its = absurd its
client_stays w (PrepareLost site tx) its = absurd its
client_stays w (Learn site v) its = absurd its
client_stays w (Rise site) its = absurd its
client_stays w (Close site) its = absurd its
client_stays w (TakeSnapshot s) its = absurd its
client_stays w (Decide d) its = absurd its
client_stays w (Install site d) its = absurd its
