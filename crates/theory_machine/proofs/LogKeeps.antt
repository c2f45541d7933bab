-- Each act keeps all logs closed, so in every run they are (each view is closed under the relation of its object:
-- Herlihy 1986).
use Rattle.std.proofs.Common.{◌≡◌, ◌≢◌, ℕ, suc, inl, inr, List, [], ◌∷◌, ◌++◌, Option, Some, None, refl, sym, ap, ◌∙◌}
use Rattle.std.proofs.Common.{subst}
use Rattle.std.specs.Prelude.{max}
use Rattle.qc_decl.specs.declared.declaration.Declaration.{Declaration}
use Rattle.qc_decl.specs.Vocabulary.{IsAccepted, append_need_of}
use Rattle.qc_list.specs.Vocabulary.{In}
use Rattle.theory_onecopy.specs.Vocabulary.{Executed, own_line}
use Rattle.theory_machine.specs.Vocabulary.{Abort, Aborted, Act, Active, Announce, AppendRequest, Begin, Choose, Close}
use Rattle.theory_machine.specs.Vocabulary.{Closes, Commit, CommitUnknown, Committed, Count, Decide, Decision, Deed}
use Rattle.theory_machine.specs.Vocabulary.{Execute, ExecuteAbsent, Grant, Granted, Grants, Install, Installs}
use Rattle.theory_machine.specs.Vocabulary.{IsAllowed, IsAppendClosed, IsClosedAt, IsExecutedOrChosen, IsRun}
use Rattle.theory_machine.specs.Vocabulary.{IsSiteClosed, Learn, LogLaws, NotBegun, Own, Pending, Prepare, PrepareLost}
use Rattle.theory_machine.specs.Vocabulary.{Prepares, Recover, Rise, RiseClient, Rises, SendAppend, Snapshot, State}
use Rattle.theory_machine.specs.Vocabulary.{StateLaws, Status, TakeSnapshot, Vote, Voting, after_act, chosen_list}
use Rattle.theory_machine.specs.Vocabulary.{deed_of, put, put_tx, recover_records, recover_status, site_after, state}
use Rattle.theory_machine.proofs.Names.{put_tx_case}
use Rattle.theory_machine.proofs.Keeps.{laws}
use Rattle.theory_machine.proofs.Grows.{right_more, met_more, carry, restated, same, at_site}
use Rattle.theory_machine.proofs.Answered.{next_operation, answered_from_quorum, view_closed}
use Rattle.theory_machine.proofs.Chooses.{send, choose_keeps}
use Rattle.theory_machine.proofs.Executes.{execute_keeps}
use Rattle.theory_machine.proofs.Merges.{grant_ready, verdict_ready, not_committed, recovered_begun, merged, none_some}

module _ (decl : Declaration) where
  pub keeps_logs : IsAccepted decl → (w : State) (a : Act) → IsAllowed decl w a → StateLaws decl w → LogLaws decl w
      → LogLaws decl (after_act w a)
  keeps_logs accepted w (Begin tx epoch) ok wl l =
      restated decl w tx Active w.clock w.records (put_tx w.epoch tx epoch)
      (λ c e. not_committed decl w tx NotBegun Active c ok.0 e (λ d x. let never : ⊥ = cc in never)) (λ x. cc)
      (λ u alive. put_tx_case (λ (x : ℕ). w.epoch u ≡ x) w.epoch tx epoch u
      (λ same. absurd (alive (ap w.status same ∙ ok.0))) (λ ne. refl)) l
  keeps_logs accepted w (Choose tx operation) ok wl l = choose_keeps decl w tx operation ok wl l
  keeps_logs accepted w (SendAppend s) ok wl l = record {
    order = l.order;
    next = l.next;
    right = l.right;
    written = l.written;
    views = l.views;
    appends = λ t h. elim h [
      | inl same ↦ subst
          (λ (x : AppendRequest). IsAppendClosed decl w.status w.executed w.chosen x.tx x.items x.view) (sym same)
          (send decl accepted w s ok wl l)
      | inr old ↦ l.appends t old
    ];
    sites = l.sites;
    granted = l.granted;
    begun = l.begun;
    snapshots = l.snapshots;
    decided = l.decided;
  }
  keeps_logs accepted w (Execute tx) ok wl l =
      let d : Executed = ok.0 in
      let is : w.chosen tx ≡ Some ok.0 = ok.1 in
      let n = l.next tx ok.0 is in
      subst (λ (o : Option Executed). LogLaws decl
      (record w {
        executed = put_tx w.executed tx (w.executed tx ++ chosen_list o);
        chosen = put_tx w.chosen tx None;
      })) (sym is)
      (execute_keeps decl w tx ok.0 (l.begun tx ok.0 (inr is))
      (λ e h. let x : Some ok.0 ≡ Some e = sym is ∙ h in cc) n.0 (l.right tx ok.0 (inr is)) (λ s. ok.2)
      (λ m h. l.views tx ok.0 m (inr is) h) l)
  keeps_logs accepted w (ExecuteAbsent tx operation) ok wl l =
      execute_keeps decl w tx operation (λ e. let x : Active ≡ NotBegun = sym ok.0 ∙ e in cc)
      (λ e h. let x : None ≡ Some e = sym ok.1 ∙ h in absurd (let never : ⊥ = cc in never))
      (next_operation decl w tx operation ok.2 l) (answered_from_quorum decl w tx operation ok.2)
      (λ s. absurd (none_some decl operation.op.resp ok.3 s)) (λ m h. view_closed decl w tx operation ok.2 wl l m h) l
  keeps_logs accepted w (Grant g) ok wl l =
      at_site decl w g.site (Grants g.tx g.items g.view) w.life (g ∷ w.granted) w.votes (grant_ready decl w g ok.3 l)
      (λ h i. elim i [
        | inl same ↦ subst (λ (x : Granted). IsSiteClosed decl w.status w.executed w.chosen (site_after x.before))
            (sym same) (subst (λ (ds : List Deed). IsSiteClosed decl w.status w.executed w.chosen (site_after ds))
            (sym ok.0) (l.sites g.site))
        | inr old ↦ l.granted h old
      ]) l
  keeps_logs accepted w (Count g) ok wl l =
      carry decl w w.status w.executed w.chosen (put w.clock g.tx.client (max (w.clock g.tx.client) g.clock))
      (put w.seen_by g.tx.client (g ∷ w.seen_by g.tx.client)) w.records (g ∷ w.counted) w.epoch (same decl w)
      l.order l.next l.begun (λ t d h. right_more decl (w.epoch t) w.counted (g ∷ w.counted) t d (λ k i. inr i)
      (l.right t d h))
      (λ t d h s. met_more decl (w.epoch t) w.counted (g ∷ w.counted) t (Own (own_line d))
      (append_need_of decl (w.epoch t) d.op.object d.event) (λ k i. inr i) (l.written t d h s)) l.views l
  keeps_logs accepted w (Prepare tx) ok wl l =
      restated decl w tx Voting w.clock w.records w.epoch
      (λ c e. not_committed decl w tx Active Voting c ok.0 e (λ d x. let never : ⊥ = cc in never)) (λ x. cc)
      (λ u a. refl) l
  keeps_logs accepted w (Vote site tx) ok wl l =
      at_site decl w site (Prepares tx) w.life w.granted (record { tx = tx; site = site } ∷ w.votes) tt l.granted l
  keeps_logs accepted w (PrepareLost site tx) ok wl l =
      at_site decl w site (Prepares tx) w.life w.granted w.votes tt l.granted l
  keeps_logs accepted w (Commit c) ok wl l =
      restated decl w c.tx (Committed c) (put w.clock c.tx.client c.stamp.clock) (c ∷ w.records) w.epoch
      (λ d e. not_committed decl w c.tx Voting (Committed c) d ok.voting e (λ f x. let never : ⊥ = cc in never))
      (λ x. cc) (λ u a. refl) l
  keeps_logs accepted w (CommitUnknown c) ok wl l =
      restated decl w c.tx (Pending c) (put w.clock c.tx.client c.stamp.clock) w.records w.epoch
      (λ d e. not_committed decl w c.tx Voting (Pending c) d ok.voting e (λ f x. let never : ⊥ = cc in never)) (λ x. cc)
      (λ u a. refl) l
  keeps_logs accepted w (Recover tx with_record) ok wl l =
      restated decl w tx (recover_status with_record (w.status tx)) w.clock
      (recover_records with_record (w.status tx) w.records) w.epoch
      (λ c e. not_committed decl w tx (Pending ok.0) (recover_status with_record (w.status tx)) c ok.1 e
      (λ f x. let never : ⊥ = cc in never)) (subst (λ (s : Status). recover_status with_record s ≢ NotBegun)
      (sym ok.1) (recovered_begun decl with_record ok.0)) (λ u a. refl) l
  keeps_logs accepted w (Abort tx) ok wl l = restated decl w tx Aborted w.clock w.records w.epoch (λ c e. elim ok [
    | inl x ↦ not_committed decl w tx Active Aborted c x e (λ f y. let never : ⊥ = cc in never)
    | inr x ↦ not_committed decl w tx Voting Aborted c x e (λ f y. let never : ⊥ = cc in never)
  ]) (λ x. cc) (λ u a. refl) l
  keeps_logs accepted w (RiseClient client clock) ok wl l =
      carry decl w w.status w.executed w.chosen (put w.clock client clock)
      (put w.seen_by client []) w.records w.counted w.epoch
      (same decl w) l.order l.next l.begun l.right l.written l.views l
  keeps_logs accepted w (Announce tx) ok wl l =
      record {
        order = l.order;
        next = l.next;
        right = l.right;
        written = l.written;
        views = l.views;
        appends = l.appends;
        sites = l.sites;
        granted = l.granted;
        begun = l.begun;
        snapshots = l.snapshots;
        decided = l.decided;
      }
  keeps_logs accepted w (Learn site v) ok wl l =
      at_site decl w site (deed_of v) w.life w.granted w.votes
      (verdict_ready decl w v.tx v.stamp (wl.verdicts v ok) wl) l.granted l
  keeps_logs accepted w (Rise site) ok wl l =
      at_site decl w site Rises (put w.life site (suc (w.life site))) w.granted w.votes tt l.granted l
  keeps_logs accepted w (Close site) ok wl l =
      at_site decl w site Closes (put w.life site (suc (w.life site))) w.granted w.votes tt l.granted l
  keeps_logs accepted w (TakeSnapshot s) ok wl l = record {
    order = l.order;
    next = l.next;
    begun = l.begun;
    right = l.right;
    written = l.written;
    views = l.views;
    appends = l.appends;
    sites = l.sites;
    granted = l.granted;
    snapshots = λ t h. elim h [
      | inl is ↦ subst (λ (x : Snapshot). IsSiteClosed decl w.status w.executed w.chosen (site_after x.before)) (sym is)
          (subst (λ (ds : List Deed). IsSiteClosed decl w.status w.executed w.chosen (site_after ds)) (sym ok.0)
          (l.sites s.site))
      | inr old ↦ l.snapshots t old
    ];
    decided = l.decided;
  }
  keeps_logs accepted w (Decide d) ok wl l = record {
    order = l.order;
    next = l.next;
    begun = l.begun;
    right = l.right;
    written = l.written;
    views = l.views;
    appends = l.appends;
    sites = l.sites;
    granted = l.granted;
    snapshots = l.snapshots;
    decided = λ e m h i. elim h [
      | inl is ↦ subst (λ (x : Decision). In m x.log → IsClosedAt decl w.status w.executed x.log m) (sym is)
          (merged decl w d ok wl l m) i
      | inr old ↦ l.decided e m old i
    ];
  }
  keeps_logs accepted w (Install site d) ok wl l =
      at_site decl w site (Installs d.epoch d.clock d.log) w.life w.granted w.votes
      (λ m h. l.decided d m ok.0 h) l.granted l

  pub log_laws : IsAccepted decl → (acts : List Act) → IsRun decl acts → LogLaws decl (state acts)
  log_laws accepted [] ok = record {
    order = λ tx. tt;
    next = λ tx d h. absurd (let never : ⊥ = cc in never);
    right = λ tx d h. absurd (none d h);
    written = λ tx d h. absurd h;
    views = λ tx d m h. absurd (none d h);
    appends = λ s h. absurd h;
    sites = λ s. record {
      less = λ l h. h;
      volatile = λ l h. absurd h;
      stable = λ l h. absurd h;
      own_closed = λ tx o h. absurd h;
      prepared = λ p h. h;
      promised = λ p o h. absurd h;
    };
    granted = λ g h. absurd h;
    begun = λ tx d h. absurd (none d h);
    snapshots = λ s h. absurd h;
    decided = λ d m h. absurd h;
  }
    where
      none : (d : Executed) → IsExecutedOrChosen [] None d → ⊥
      none d (inl h) = h
      none d (inr h) = let never : ⊥ = cc in never
  log_laws accepted (a ∷ older) ok = keeps_logs accepted (state older) a ok.0 (laws decl older ok.1)
      (log_laws accepted older ok.1)
