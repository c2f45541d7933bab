-- What agrees with the records of an actor stays so as others act.
use Rattle.std.proofs.Common.{◌≡◌, ◌≤◌, ◌<◌, ◌+◌, ℕ, ◌-◌, true, inl, inr, List, Option, map, sym, ap, ◌∙◌, subst, arith}
use Rattle.std.proofs.lemmas.Bool.{ltb-true}
use Rattle.qc_decl.proofs.Clients.{client_below, client_past}
use Rattle.qc_stamp.specs.declared.stamp.TxId.{TxId}
use Rattle.qc_entry.specs.declared.record.Commit.{Commit as CommitRecord}
use Rattle.qc_decl.specs.declared.declaration.Declaration.{Declaration}
use Rattle.qc_decl.specs.Vocabulary.{administrator, client_actor, is_client, is_site}
use Rattle.qc_msg.specs.declared.record.Record.{Record}
use Rattle.theory_onecopy.specs.Vocabulary.{Executed}
use Rattle.theory_machine.specs.Vocabulary.{Deed, MayCommit, State, op_of}
use Rattle.qc_recover.specs.Clients as clients
use Rattle.qc_recover.specs.Vocabulary.{Kept, epoch_by}
use Rattle.laws_refinement.specs.Vocabulary.{FallenMirrors, IsPendingAt, IsPendingBy, IsPendingRule, KeptMirrors}
use Rattle.laws_refinement.specs.Vocabulary.{RulesMirror}
use Rattle.laws_refinement.proofs.MessagesStay.{Keeps, Later, decided_later, decision_later}
use Rattle.laws_refinement.proofs.LaterDecisions.{decisions_may_wait}
use Rattle.laws_refinement.proofs.PendingCases.{admin_pends, client_pends, site_pends}
use Rattle.qc_msg.specs.declared.payload.EpochStart.{EpochStart}

-- no site is a client
pub no_client : (decl : Declaration) (a : ℕ) → is_site decl a ≡ true → is_client decl a ≡ true → ⊥
no_client decl a site client =
    let low : a < decl.sites = ltb-true a decl.sites site in
    let high : decl.sites ≤ a = client_past decl a client in
    omega arith

pub kept_later : (decl : Declaration) (w v : State) (k : Kept) (life : ℕ) (ds : List Deed) → Later w v
    → KeptMirrors decl k w.status life ds → KeptMirrors decl k v.status life ds
kept_later decl w v k life ds l m = record {
  life_is = m.life_is;
  epoch = m.epoch;
  planned = m.planned;
  shut = m.shut;
  closing = m.closing;
  installs = m.installs;
  stable = m.stable;
  kept = m.kept;
  sorted = m.sorted;
  done = m.done;
  passed = m.passed;
  promised = m.promised;
  last = m.last;
  apart = m.apart;
  lined = m.lined;
  begun = λ p among. l.born p.tx (m.begun p among);
}

pub pends_later : (decl : Declaration) (w v : State) (k : Kept) (ds : List Deed) (o : Option Record) → Later w v
    → IsPendingAt decl w k ds o → IsPendingAt decl v k ds o
pends_later decl w v k ds o l =
    site_pends decl w k ds (IsPendingAt decl v k ds) tt tt (λ p h. record {
      asked = l.asked p.tx h.asked;
      fresh = h.fresh;
      same = h.same;
      whole = h.whole;
      lines = h.lines;
      ascends = h.ascends;
    }) (λ tx clock h. record {
      told = l.verdicts _ h.told;
      promise = h.promise;
      promised = h.promised;
      prepared = h.prepared;
      kept = h.kept;
      same = h.same;
    }) (λ epoch h. h) (λ start h. (decided_later decl w v l start.epoch start.clock start.lines h.0, h.1)) o

may_keeps : (w v : State) (n : ℕ) (r : CommitRecord) → r.tx.client ≡ n → Keeps w v n → MayCommit w r → MayCommit v r
may_keeps w v n r its k m = record {
  voting = k.status r.tx its ∙ m.voting;
  votes = λ g among is. k.votes _ (m.votes g (k.counted g (ap (λ (u : TxId). u.client) is ∙ its) among) is);
  client = m.client;
  above = (let e : v.clock r.tx.client ≡ w.clock r.tx.client =
      subst (λ (x : ℕ). v.clock x ≡ w.clock x) (sym its) k.clock in
      let l : w.clock r.tx.client < r.stamp.clock = m.above in omega arith);
  ops = m.ops ∙ ap (λ (ds : List Executed). map op_of ds) (sym (k.executed r.tx its));
}

pending_keeps : (w v : State) (n : ℕ) (o : Option Record) → Keeps w v n → IsPendingBy w n o → IsPendingBy v n o
pending_keeps w v n o k =
    client_pends w n (IsPendingBy v n) tt tt (λ r h. (may_keeps w v n r h.1 k h.0, h.1)) o

pub fallen_keeps : (w v : State) (n : ℕ) (k : clients.Kept) (o : Option Record) → Keeps w v n → FallenMirrors w n k o
    → FallenMirrors v n k o
fallen_keeps w v n k o keeps m = record {
  to_come = λ t its later. keeps.status t its ∙ m.to_come t its later;
  committed = λ r among. ((m.committed r among).0, keeps.status r.tx (m.committed r among).0 ∙ (m.committed r among).1);
  passed = m.passed;
  ended = λ t its born none. elim (m.ended t its (λ e. born (keeps.status t its ∙ e)) none) [
    | inl dead ↦ inl (keeps.status t its ∙ dead)
    | inr waits ↦ inr waits
  ];
  pends = pending_keeps w v n o keeps m.pends;
}

-- a client's actor has its number behind those of the sites
pub client_place : (decl : Declaration) (a : ℕ) → is_client decl a ≡ true → a ≡ client_actor decl (a - decl.sites)
client_place decl a client = let low : decl.sites ≤ a = client_past decl a client in omega arith

-- the administrator is neither a site nor a client
pub no_ruler : (decl : Declaration) → is_site decl (administrator decl) ≡ true → ⊥
no_ruler decl site = let low : decl.sites + decl.clients < decl.sites = ltb-true (administrator decl) decl.sites site in
    omega arith

pub no_ruling : (decl : Declaration) → is_client decl (administrator decl) ≡ true → ⊥
no_ruling decl client = let high : decl.sites + decl.clients < decl.sites + decl.clients =
    client_below decl (administrator decl) client in omega arith

pub rules_later : (decl : Declaration) (w v : State) (k : Option EpochStart) → Later w v → RulesMirror decl w k
    → RulesMirror decl v k
rules_later decl w v k l m = record {
  planned = m.planned;
  decided = decision_later decl w v l (epoch_by k) k m.decided;
}

pub ruling_later : (decl : Declaration) (w v : State) (o : Option Record) → Later w v → IsPendingRule decl w o
    → IsPendingRule decl v o
ruling_later decl w v o l =
    admin_pends decl w (IsPendingRule decl v) tt tt (λ start h. record {
      decision = h.decision;
      may = decisions_may_wait decl w v h.decision l.snapshots l.verdicts h.may;
      epoch_is = h.epoch_is;
      clock_is = h.clock_is;
      log_is = h.log_is;
      sorted = h.sorted;
      planned = h.planned;
    }) o
